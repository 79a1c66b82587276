-- What a mend does, and how much it puts.
use Rattle.std.specs.Prelude.{◌≡◌, ℕ, Bool, true, false, List}
use Rattle.files_model.specs.declared.reply.Reply.TheVariants as reply
use Rattle.stable.specs.Moments.{LeavesOnly}
use Rattle.stable.specs.declared.store.Stable.{Ghosts}
use Rattle.v7_make.specs.Chains.{chain_puts}
use Rattle.v7_repair.specs.Runs.{repair_puts}
use Rattle.volume.specs.declared.outcome.Outcome.{Outcome}
use Rattle.volume.specs.declared.outcome.Outcome.TheVariants as outcome
use Rattle.volume.specs.Applied.{HasFault}
use Rattle.volume.specs.Keeps.{SameVolume}

-- the answer says whether the volume is still hurt, and the only reply is Done
abbrev pub AnswersMend : Outcome → Bool → Bool → Type 0
AnswersMend (outcome.Reply r) was is = (r ≡ reply.Done) × (is ≡ false)
AnswersMend outcome.Io was is = (was ≡ true) × (is ≡ true)
AnswersMend outcome.NoMemory was is = (was ≡ true) × (is ≡ true)

-- A volume that may have been hurt was mended, or not: it is the same at each moment. `s` is what the store's type tells.
pub record Mends {S : Type 0} (s : Ghosts S) (old new : S) (was is : Bool) (result : Outcome) : Type 0 where
  pub answer : AnswersMend result was is
  pub cause : HasFault result (s.faults old) (s.faults new)
  pub crash : LeavesOnly s.moment s.left_since old new (SameVolume (s.image old))

-- how many sectors a mend puts at most
abbrev pub mend_puts : Bool → ℕ
mend_puts true = repair_puts
mend_puts false = 0

-- how many sectors a stop puts at most
abbrev pub stop_puts : Bool → List Bool → ℕ
stop_puts true blocks = 0
stop_puts false blocks = chain_puts blocks
