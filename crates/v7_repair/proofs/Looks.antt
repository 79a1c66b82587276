-- Looks at a volume, and then its mending.
use Rattle.std.proofs.Common.{◌≡◌, inl, inr, ℕ, ◌^◌, ◌<◌, ◌≤◌, Result, Ok, Err, refl, subst, arith}
use Rattle.std.specs.Result.{IsErrOf}
use Rattle.stable.specs.Counts.{Rose}
use Rattle.stable.specs.Looked.{Looked}
use Rattle.stable.specs.Moments.{IsClocked}
use Rattle.stable.specs.Store.{Image}
use Rattle.stable.specs.declared.store.Stable.{Ghosts}
use Rattle.stable.proofs.Clocked.{ends}
use Rattle.v7_damage.specs.declared.damage.RepairFault.{RepairFault}
use Rattle.v7_damage.specs.declared.damage.RepairFault.TheVariants.{Damaged, Failed, NoMemory}
use Rattle.v7_damage.specs.Undamaged.{IsFaultOf}
use Rattle.v7_damage.specs.Tests.{IsNoDamage}
use Rattle.v7_mend.specs.Keeps.{KeepsVolume}
use Rattle.v7_mend.specs.Runs.{CountsPuts}
use Rattle.v7_mend.proofs.Running.{look_puts, looks_first}
use Rattle.v7_repair.specs.Leaves.{MayMend, LeavesFault}
use Rattle.v7_repair.specs.Runs.{HasRun, Says, repair_puts}
use Rattle.v7_repair.specs.declared.mended.Mended.{Mended}

-- a fault that was found by a look
pub fault_left : (old new : Image) (fault : RepairFault) → IsFaultOf old fault → new ≡ old → LeavesFault old new fault
fault_left old new (Damaged sector which) told same = (told, same)
fault_left old new Failed told same = inl same
fault_left old new NoMemory told same = same

pub no_fault_left : (old new : Image) (fault : RepairFault) → IsNoDamage fault → new ≡ old → LeavesFault old new fault
no_fault_left old new (Damaged sector which) none same = absurd none
no_fault_left old new Failed none same = inl same
no_fault_left old new NoMemory none same = same

module _ {S : Type 0} (s : Ghosts S) (clocked : IsClocked s.tells s.image s.moment s.left_since) (counted : (x : S) → (s.snapshot_of x).puts < 2 ^ 64) where
  says_looked : {T : Type 0} (old new : S) (fault : RepairFault) → Looked s old new → (IsErrOf {T = T} (Err fault) Failed → Rose (s.faults old) (s.faults new)) → Says s 0 old new (Err fault)
  says_looked old new (Damaged sector which) look cause = look
  says_looked old new Failed look cause = cause refl
  says_looked old new NoMemory look cause = look

  -- a look that ends in a fault
  pub run_looked : {T : Type 0} (old new : S) (fault : RepairFault) → Looked s old new → (IsErrOf {T = T} (Err fault) Failed → Rose (s.faults old) (s.faults new)) → HasRun s old new (Err fault)
  run_looked old new fault look cause = record {
    count = 0;
    few = omega arith;
    puts = look_puts s clocked counted look (λ tells. inl refl);
    says = says_looked old new fault look cause;
  }

  -- a look, and then a run of mending
  pub counts_puts : {E : Type 0} {most : ℕ} {old mid new : S} {result : Result ℕ E} → Looked s old mid → CountsPuts s (KeepsVolume (s.image mid)) most mid new result → CountsPuts s (MayMend (s.image old)) most old new result
  counts_puts {old = old} look mended = looks_first s clocked counted look (λ tells. inl refl) mended (λ d left kept. inr (subst (λ (x : Image). KeepsVolume x d) look.image kept))

  pub run_failed : {E : Type 0} {most : ℕ} {old mid new : S} (e : E) → most ≤ repair_puts → Looked s old mid → CountsPuts s (KeepsVolume (s.image mid)) most mid new (Err e) → HasRun s old new (Err Failed)
  run_failed e fits look mended =
      let c = counts_puts look mended in
      let few = c.few in
      record { count = c.count; few = omega (arith, few, fits); puts = c.puts; says = c.cause }

  pub run_done : {E : Type 0} {most : ℕ} {old mid new : S} (mended : Mended) → most ≤ repair_puts → Looked s old mid → CountsPuts {E = E} s (KeepsVolume (s.image mid)) most mid new (Ok mended.repaired.changed) → HasRun s old new (Ok mended)
  run_done mended fits look run =
      let c = counts_puts look run in
      let few = c.few in
      record { count = c.count; few = omega (arith, few, fits); puts = c.puts; says = c.answer }

  -- what a run of mending leaves
  pub kept_by : {E : Type 0} {most : ℕ} {old mid new : S} {result : Result ℕ E} → Looked s old mid → CountsPuts s (KeepsVolume (s.image mid)) most mid new result → s.tells → KeepsVolume (s.image old) (s.image new)
  kept_by {new = new} look mended tells = subst (λ (x : Image). KeepsVolume x (s.image new)) look.image (ends clocked mended.puts.crash tells)
