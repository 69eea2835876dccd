use Rattle.std.proofs.Common.{rules}
use Rattle.pale_modes.specs.Formatting.{Formats}
use Rattle.pale_judging.specs.Checking.{Checks}
use Rattle.pale_judging.specs.Judging.{Judges}
use Rattle.pale_judging.specs.Meeting.{MeetsText}
use Rattle.pale_top.specs.Output.{Output, check, replay, format, ws2s, judge, meet, run, trace}
use Rattle.pale_modes.specs.Deciding.{Decides}
use Rattle.pale_modes.specs.Replaying.{Replays}
use Rattle.pale_modes.specs.Running.{Runs}
use Rattle.pale_modes.specs.Tracing.{Traces}
use Rattle.pale_status.proofs.WrittenLemmas.{begun-weaker, whole-weaker}
use Rattle.pale_status.proofs.WrittenLemmas.{said_begun, said_whole}
use Rattle.pale_status.specs.Report.{too_long_line}
use Rattle.pale_status.specs.declared.status.Status.TheVariants.{Text}
use Rattle.pale_top.proofs.CallLemmas.{too_long_output}
use Rattle.pale_top.proofs.text.answer_text.Goals as goal

pub returns-then-text-gt-MOST_BYTES-clause-ok : goal.returns-then-text-gt-MOST_BYTES-clause-ok
returns-then-text-gt-MOST_BYTES-clause-ok g c =
    said_whole (Output c.args.settings c.args.text.now) (g.K.Sink.written c.args.sink.now) (g.K.Sink.written c.say.new.sink)
    too_long_line Text (too_long_output c.args.settings c.args.text.now c.requires.reads (search rules)) c.say.result c.say.ensures.ok

pub returns-then-text-gt-MOST_BYTES-clause-err : goal.returns-then-text-gt-MOST_BYTES-clause-err
returns-then-text-gt-MOST_BYTES-clause-err g c =
    said_begun (Output c.args.settings c.args.text.now) (g.K.Sink.written c.args.sink.now) (g.K.Sink.written c.say.new.sink)
    too_long_line Text (too_long_output c.args.settings c.args.text.now c.requires.reads (search rules)) c.say.result c.say.ensures.err

pub returns-in-Check-clause-ok : goal.returns-in-Check-clause-ok
returns-in-Check-clause-ok g c =
    whole-weaker (Checks c.args.settings.limit c.args.text.now) (Output c.args.settings c.args.text.now) (check c.in-Check.is)
    (g.K.Sink.written c.args.sink.now) (g.K.Sink.written c.check_text.new.sink) c.check_text.result c.check_text.ensures.ok

pub returns-in-Check-clause-err : goal.returns-in-Check-clause-err
returns-in-Check-clause-err g c =
    begun-weaker (Checks c.args.settings.limit c.args.text.now) (Output c.args.settings c.args.text.now) (check c.in-Check.is)
    (g.K.Sink.written c.args.sink.now) (g.K.Sink.written c.check_text.new.sink) c.check_text.result c.check_text.ensures.err

pub returns-in-Replay-clause-ok : goal.returns-in-Replay-clause-ok
returns-in-Replay-clause-ok g c =
    whole-weaker (Replays c.args.text.now) (Output c.args.settings c.args.text.now) (replay c.in-Replay.is)
    (g.K.Sink.written c.args.sink.now) (g.K.Sink.written c.replay_text.new.sink) c.replay_text.result c.replay_text.ensures.ok

pub returns-in-Replay-clause-err : goal.returns-in-Replay-clause-err
returns-in-Replay-clause-err g c =
    begun-weaker (Replays c.args.text.now) (Output c.args.settings c.args.text.now) (replay c.in-Replay.is)
    (g.K.Sink.written c.args.sink.now) (g.K.Sink.written c.replay_text.new.sink) c.replay_text.result c.replay_text.ensures.err

pub returns-in-Format-clause-ok : goal.returns-in-Format-clause-ok
returns-in-Format-clause-ok g c =
    whole-weaker (Formats c.args.text.now) (Output c.args.settings c.args.text.now) (format c.in-Format.is)
    (g.K.Sink.written c.args.sink.now) (g.K.Sink.written c.format_text.new.sink) c.format_text.result c.format_text.ensures.ok

pub returns-in-Format-clause-err : goal.returns-in-Format-clause-err
returns-in-Format-clause-err g c =
    begun-weaker (Formats c.args.text.now) (Output c.args.settings c.args.text.now) (format c.in-Format.is)
    (g.K.Sink.written c.args.sink.now) (g.K.Sink.written c.format_text.new.sink) c.format_text.result c.format_text.ensures.err

pub returns-in-Ws2s-clause-ok : goal.returns-in-Ws2s-clause-ok
returns-in-Ws2s-clause-ok g c =
    whole-weaker (Decides c.args.settings.limit c.args.text.now) (Output c.args.settings c.args.text.now) (ws2s c.in-Ws2s.is)
    (g.K.Sink.written c.args.sink.now) (g.K.Sink.written c.decide_text.new.sink) c.decide_text.result c.decide_text.ensures.ok

pub returns-in-Ws2s-clause-err : goal.returns-in-Ws2s-clause-err
returns-in-Ws2s-clause-err g c =
    begun-weaker (Decides c.args.settings.limit c.args.text.now) (Output c.args.settings c.args.text.now) (ws2s c.in-Ws2s.is)
    (g.K.Sink.written c.args.sink.now) (g.K.Sink.written c.decide_text.new.sink) c.decide_text.result c.decide_text.ensures.err

pub returns-in-Judge-clause-ok : goal.returns-in-Judge-clause-ok
returns-in-Judge-clause-ok g c =
    whole-weaker (Judges c.args.settings.limit c.args.text.now) (Output c.args.settings c.args.text.now) (judge c.in-Judge.is)
    (g.K.Sink.written c.args.sink.now) (g.K.Sink.written c.judge_text.new.sink) c.judge_text.result c.judge_text.ensures.ok

pub returns-in-Judge-clause-err : goal.returns-in-Judge-clause-err
returns-in-Judge-clause-err g c =
    begun-weaker (Judges c.args.settings.limit c.args.text.now) (Output c.args.settings c.args.text.now) (judge c.in-Judge.is)
    (g.K.Sink.written c.args.sink.now) (g.K.Sink.written c.judge_text.new.sink) c.judge_text.result c.judge_text.ensures.err

pub returns-in-Meet-clause-ok : goal.returns-in-Meet-clause-ok
returns-in-Meet-clause-ok g c =
    whole-weaker (MeetsText c.args.settings.limit c.args.text.now) (Output c.args.settings c.args.text.now) (meet c.in-Meet.is)
    (g.K.Sink.written c.args.sink.now) (g.K.Sink.written c.meet_text.new.sink) c.meet_text.result c.meet_text.ensures.ok

pub returns-in-Meet-clause-err : goal.returns-in-Meet-clause-err
returns-in-Meet-clause-err g c =
    begun-weaker (MeetsText c.args.settings.limit c.args.text.now) (Output c.args.settings c.args.text.now) (meet c.in-Meet.is)
    (g.K.Sink.written c.args.sink.now) (g.K.Sink.written c.meet_text.new.sink) c.meet_text.result c.meet_text.ensures.err

pub returns-in-Run-clause-ok : goal.returns-in-Run-clause-ok
returns-in-Run-clause-ok g c =
    whole-weaker (Runs c.args.text.now) (Output c.args.settings c.args.text.now) (run c.in-Run.is)
    (g.K.Sink.written c.args.sink.now) (g.K.Sink.written c.run_text.new.sink) c.run_text.result c.run_text.ensures.ok

pub returns-in-Run-clause-err : goal.returns-in-Run-clause-err
returns-in-Run-clause-err g c =
    begun-weaker (Runs c.args.text.now) (Output c.args.settings c.args.text.now) (run c.in-Run.is)
    (g.K.Sink.written c.args.sink.now) (g.K.Sink.written c.run_text.new.sink) c.run_text.result c.run_text.ensures.err

pub returns-in-Trace-clause-ok : goal.returns-in-Trace-clause-ok
returns-in-Trace-clause-ok g c =
    whole-weaker (Traces c.args.text.now) (Output c.args.settings c.args.text.now) (trace c.in-Trace.is)
    (g.K.Sink.written c.args.sink.now) (g.K.Sink.written c.trace_text.new.sink) c.trace_text.result c.trace_text.ensures.ok

pub returns-in-Trace-clause-err : goal.returns-in-Trace-clause-err
returns-in-Trace-clause-err g c =
    begun-weaker (Traces c.args.text.now) (Output c.args.settings c.args.text.now) (trace c.in-Trace.is)
    (g.K.Sink.written c.args.sink.now) (g.K.Sink.written c.trace_text.new.sink) c.trace_text.result c.trace_text.ensures.err
