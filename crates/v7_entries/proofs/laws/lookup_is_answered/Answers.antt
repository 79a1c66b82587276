use Rattle.v7_entries.proofs.Lookups.{lookup-answer}
use Rattle.v7_entries.proofs.laws.lookup_is_answered.Goals as goal

pub returns : goal.returns
returns c image dir name cred now strong = lookup-answer image strong dir name cred now
