-- What a call comes to, by the parts of what is planned.
use Rattle.std.proofs.Common.{◌≡◌, ℕ, List, [], ◌∷◌, length, refl, sym, ap, subst, ◌∙◌, Option, None, set, Bool, true, false}
use Rattle.std.proofs.lemmas.List.{length-set}
use Rattle.files_model.specs.declared.reply.Reply.{Reply}
use Rattle.files_model.specs.Files.{Files}
use Rattle.files_model.specs.Step.{step}
use Rattle.files_model.specs.Torn.{Asked}
use Rattle.index_sets.specs.Free.{is_free}
use Rattle.name_plans.specs.Taken.{taken}
use Rattle.name_plans.proofs.CreatingSets.{taken-only}
use Rattle.stable.specs.Puts.{Reserved, put_all}
use Rattle.stable.specs.Store.{Image}
use Rattle.v7_map.specs.Frame.{frame}
use Rattle.v7_map.specs.Plans.{IsPlanOf}
use Rattle.v7_map.specs.View.{view}
use Rattle.v7_map.specs.Weak.{IsStrong}
use Rattle.v7_sets.specs.Given.{given}
use Rattle.v7_sets.specs.Sets.{AreSetsOf}
use Rattle.v7_sets.specs.declared.sets.Sets.{Sets}
use Rattle.plan_name.specs.Planned.{IsPlannedCall, TakesFrom, number_back}
use Rattle.plan_name.specs.declared.planned.Planned.{Planned}
use Rattle.plan_name.proofs.Equals.{of-equals}
use Rattle.plan_name.proofs.NothingPut.{nothing-put}

module _ (image : Image) (asked : Asked) (now : ℕ) (left : Sets) (made : Planned) where
  -- what is free afterwards, by equals of what is put and freed
  pub sets-by : {puts : List (ℕ × List ℕ)} {blocks : List ℕ} {number : Option ℕ} → made.plan.puts ≡ puts → made.freed.blocks.items ≡ blocks → made.freed.inode ≡ number
      → AreSetsOf (put_all puts image) (given blocks left.blocks) (number_back number left.inodes) → AreSetsOf (put_all made.plan.puts image) (given made.freed.blocks.items left.blocks) (number_back made.freed.inode left.inodes)
  sets-by a b c h = of-equals (λ (ps : List (ℕ × List ℕ)) (bs : List ℕ) (n : Option ℕ). AreSetsOf (put_all ps image) (given bs left.blocks) (number_back n left.inodes)) a b c h

  -- a call that leaves the files is planned by no puts
  pub unchanged-call : (answer : Reply) → IsStrong (frame image) → AreSetsOf image left.blocks left.inodes → step (view image) asked.0 asked.1 now ≡ (answer, view image)
      → made.plan ≡ record { puts = []; room = 0 } → made.reply ≡ answer → made.freed.blocks.items ≡ [] → made.freed.inode ≡ None → IsPlannedCall image asked now left made
  unchanged-call answer strong are e plan reply blocks number =
      let puts : made.plan.puts ≡ [] = ap (λ (r : Reserved). r.puts) plan in record {
        plan = subst (λ ps. IsPlanOf image (asked ∷ []) now ps) (sym puts) (nothing-put image asked now strong (ap (λ (r : Reply × Files). r.1) e));
        answered = reply ∙ sym (ap (λ (r : Reply × Files). r.0) e);
        sets = sets-by puts blocks number are;
      }

-- new blocks and an i-number are taken
pub taken-from : (old : Sets) (new : List ℕ) (i : ℕ) (blocks inodes : List Bool) → blocks ≡ taken new old.blocks → inodes ≡ set old.inodes i false → TakesFrom old (record { blocks = blocks; inodes = inodes })
taken-from old new i blocks inodes a b = record {
  blocks = λ k h. taken-only new old.blocks k (subst (λ (free : List Bool). is_free free k ≡ true) a h);
  numbers = ap (λ (l : List Bool). length l) b ∙ length-set old.inodes i false;
}

pub nothing-taken : (sets : Sets) → TakesFrom sets sets
nothing-taken sets = record { blocks = λ k h. h; numbers = refl }
