-- What a CREATE of a free name comes to, by what is judged of it.
use Rattle.std.proofs.Common.{◌≡◌, ℕ, ◌<◌, ◌≤◌, Bool, false, not, ◌||◌, List, [], ◌∷◌, length, set, refl, sym, ap, subst, ◌∙◌, arith, ltb, Some, None, unwrap_or}
use Rattle.std.specs.List.{position}
use Rattle.std.specs.FinMap.{get}
use Rattle.files_model.specs.declared.attributes.FileId.{FileId}
use Rattle.files_model.specs.declared.attributes.Sattr.{Sattr}
use Rattle.files_model.specs.declared.call.Call.TheVariants.{Create}
use Rattle.files_model.specs.declared.credential.Cred.{Cred}
use Rattle.files_model.specs.declared.reply.Stat.{Stat}
use Rattle.files_model.specs.declared.reply.Stat.TheVariants as stat
use Rattle.files_model.specs.declared.reply.Reply.{Reply}
use Rattle.files_model.specs.declared.reply.Reply.TheVariants as reply
use Rattle.files_model.specs.Answers.{first_of, unless, at_live}
use Rattle.files_model.specs.Files.{Node, Files}
use Rattle.files_model.specs.NameRows.{create_row, create_at, create_new, create_tests}
use Rattle.files_model.specs.Names.{has_name, place_for, new_file, may_change, with_entry}
use Rattle.files_model.specs.Space.{size_limit}
use Rattle.files_model.specs.Step.{step}
use Rattle.stable.specs.Puts.{put_all}
use Rattle.stable.specs.Store.{Image}
use Rattle.v7_map.specs.Frame.{frame}
use Rattle.v7_map.specs.Image.{inode_at, inodes_before}
use Rattle.v7_map.specs.View.{view}
use Rattle.v7_map.specs.Weak.{IsStrong}
use Rattle.v7_sets.specs.Sets.{AreSetsOf}
use Rattle.v7_sets.specs.declared.sets.Sets.{Sets}
use Rattle.v7_strokes.proofs.Views.{view-generation, view-inodes}
use Rattle.name_plans.specs.Making.{IsCreation, IsMaking}
use Rattle.name_plans.specs.Taken.{taken}
use Rattle.name_plans.proofs.CreatingAccepted.{first_none, creation-step, usable-facts}
use Rattle.name_plans.proofs.CreatingInPlace.{creation-making}
use Rattle.plan_name.specs.Created.{IsFreeName, CanBeNumber}
use Rattle.plan_name.specs.Creating.{MayMake, IsPlannedMaking, made_answer}
use Rattle.plan_name.specs.Judging.{MayBeMade}
use Rattle.plan_name.specs.Planned.{IsPlannedCall}
use Rattle.plan_name.specs.declared.planned.Planned.{Planned}
use Rattle.plan_name.proofs.PlannedCall.{sets-by, unchanged-call}

lt_of : (b : Bool) (x y : ℕ) → (ltb x y || b) ≡ false → y ≤ x
lt_of b x y e = grind arith

flipped : (x y : ℕ) → false ≡ not (ltb x y) → x < y
flipped x y e = grind arith

module _ (image : Image) (dir : FileId) (name : List ℕ) (wanted : Sattr) (cred : Cred) (now : ℕ) (d : Node) (strong : IsStrong (frame image)) (free : IsFreeName (view image) dir name wanted d) where
  -- the row is that of a new file
  row : step (view image) (Create dir name wanted) cred now ≡ create_new (view image) dir.ino d name wanted cred now
  unfolding create_row
  row =
      ap (λ o. at_live (view image) o (λ n. unless (view image) (first_of (create_tests (view image) n name wanted)) (create_at (view image) dir.ino n name wanted cred now (position (has_name name) n.slots)))) free.live
      ∙ (λ z. unless (view image) (free.tests z) (create_at (view image) dir.ino d name wanted cred now (free.absent z)))

  -- a refusal plans nothing
  pub new-refused : (status : Stat) (left : Sets) (made : Planned) → create_new (view image) dir.ino d name wanted cred now ≡ (reply.Refused status, view image) → AreSetsOf image left.blocks left.inodes
      → made.plan ≡ record { puts = []; room = 0 } → made.reply ≡ reply.Refused status → made.freed.blocks.items ≡ [] → made.freed.inode ≡ None → IsPlannedCall image (Create dir name wanted, cred) now left made
  new-refused status left made e are plan answer blocks number = unchanged-call image (Create dir name wanted, cred) now left made (reply.Refused status) strong are (row ∙ e) plan answer blocks number

  module _ (i : ℕ) (may : MayBeMade (view image) dir.ino d name (unwrap_or wanted.size 0) cred now i) where
    creation : IsCreation (view image) dir name wanted cred now d i
    creation = record { live = free.live; tests = free.tests; absent = free.absent; entry = may.entry; usable = may.usable; room = may.room }

    making : IsMaking (view image) (Create dir name wanted, cred) now dir.ino name d i (new_file wanted cred now)
    making = creation-making image dir name wanted cred now d i strong creation

    within : i ≤ inodes_before (frame image).isize
    unfolding frame
    within = let w = making.within in let e = view-inodes image in omega arith

    pub new-number : (sectors : ℕ) → (frame image).sectors ≡ sectors → CanBeNumber sectors i
    new-number sectors e = let low = making.low in let w = within in let s = strong.weak.sizes.low in let h = strong.weak.sizes.high in let a = strong.weak.sizes.above in let b = strong.weak.sizes.within in record {
      some = λ z. omega arith;
      short = omega arith;
      stands = omega arith;
    }

    pub new-may : (index : ℕ) → index ≡ place_for d.slots → MayMake image (Create dir name wanted, cred) now dir.ino i index name wanted cred d
    new-may index place =
        let u = usable-facts (view image) i may.usable in
        let a = first_none (not (may_change cred dir.ino d)) stat.Acces ((ltb size_limit (unwrap_or wanted.size 0) || ltb size_limit (with_entry d None 0).size, stat.Fbig) ∷ []) may.entry in
        let b = first_none (ltb size_limit (unwrap_or wanted.size 0) || ltb size_limit (with_entry d None 0).size) stat.Fbig [] a.1 in
        let g : get (view image).generations i ≡ Some (inode_at image i).generation = view-generation image i (let low = making.low in λ z. omega arith) (let w = making.within in let e = view-inodes image in omega arith) in
        let same : unwrap_or (get (view image).generations i) 0 ≡ (inode_at image i).generation = ap (λ o. unwrap_or o 0) g in
        let fresh = u.1 in record {
          making = making;
          size = lt_of (ltb size_limit (with_entry d None 0).size) size_limit (unwrap_or wanted.size 0) b.0;
          place = place;
          fresh = omega arith;
        }

    pub new-planned : (left : Sets) (blocks inodes : List Bool) (new : List ℕ) (made : Planned) → AreSetsOf image blocks inodes → left.blocks ≡ taken new blocks → left.inodes ≡ set inodes i false
        → IsPlannedMaking image (Create dir name wanted, cred) now i new made.plan.puts → made.reply ≡ made_answer image i (new_file wanted cred now) → made.freed.blocks.items ≡ [] → made.freed.inode ≡ None
        → IsPlannedCall image (Create dir name wanted, cred) now left made
    new-planned left blocks inodes new made are same_blocks same_inodes plan is none no_number = record {
      plan = plan.plan;
      answered = is ∙ sym (ap (λ (r : Reply × Files). r.0) (creation-step (view image) dir name wanted cred now d i creation));
      sets = sets-by image (Create dir name wanted, cred) now left made refl none no_number
          (subst (λ b. AreSetsOf (put_all made.plan.puts image) b left.inodes) (sym same_blocks) (subst (λ n. AreSetsOf (put_all made.plan.puts image) (taken new blocks) n) (sym same_inodes) (plan.sets blocks inodes are)));
    }

pub inside-of : (d : Node) → false ≡ not (ltb (place_for d.slots) (length d.slots)) → place_for d.slots < length d.slots
inside-of d e = flipped (place_for d.slots) (length d.slots) e
