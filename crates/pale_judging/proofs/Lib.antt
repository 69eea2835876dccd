mod CheckingLemmas
mod JudgingLemmas
mod MeetingLemmas
