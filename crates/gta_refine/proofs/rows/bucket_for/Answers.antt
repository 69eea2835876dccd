-- By the hash of the row.
use Rattle.std.proofs.Common.{ℕ, ◌/◌, ◌%◌, ◌^◌, ◌∙◌, ap}
use Rattle.gta_refine.specs.Firsts.{bucket_of}
use Rattle.gta_refine.proofs.rows.bucket_for.Goals as goal

pub returns-clause-value : goal.returns-clause-value
unfolding bucket_of
returns-clause-value c = c.bucket_by.ensures.value ∙ ap (λ (hash : ℕ). (hash / 2 ^ 32) % c.args.buckets) c.hash_of-hash.ensures
