-- A CREATE of a standing file comes to what a SETATTR of its size does.
use Rattle.std.proofs.Common.{◌≡◌, ℕ, Bool, true, false, cond, not, ◌&&◌, List, [], ◌∷◌, Option, Some, None, is_some, refl, sym, ap, subst, ◌∙◌, ltb, unwrap_or}
use Rattle.std.specs.FinMap.{get}
use Rattle.std.specs.List.{position}
use Rattle.files_model.specs.declared.attributes.FileId.{FileId}
use Rattle.files_model.specs.declared.attributes.Sattr.{Sattr}
use Rattle.files_model.specs.declared.call.Call.TheVariants.{Create, Setattr}
use Rattle.files_model.specs.declared.credential.Cred.{Cred}
use Rattle.files_model.specs.declared.permission.Want.TheVariants as want
use Rattle.files_model.specs.declared.reply.Reply.{Reply}
use Rattle.files_model.specs.declared.reply.Reply.TheVariants as reply
use Rattle.files_model.specs.declared.reply.Stat.{Stat}
use Rattle.files_model.specs.declared.reply.Stat.TheVariants as stat
use Rattle.files_model.specs.Answers.{at_live, unless, first_of, attr_of}
use Rattle.files_model.specs.Files.{Node, Files}
use Rattle.files_model.specs.NameRows.{create_row, create_at, create_tests, resize_at}
use Rattle.files_model.specs.Names.{has_name, at_node, handle_of, size_alone}
use Rattle.files_model.specs.Permission.{allows, is_regular}
use Rattle.files_model.specs.Space.{size_limit}
use Rattle.files_model.specs.Step.{step}
use Rattle.stable.specs.Store.{Image}
use Rattle.v7_map.specs.Frame.{frame}
use Rattle.v7_map.specs.Plans.{IsPlanOf}
use Rattle.v7_map.specs.Image.{inode_at}
use Rattle.v7_map.specs.Stored.{stored_attr}
use Rattle.v7_map.specs.View.{view, node_at}
use Rattle.v7_map.specs.Weak.{IsStrong}
use Rattle.v7_map.proofs.Standing.{attr_of-stored, node-is, generation-is}
use Rattle.name_plans.specs.Standing.{StandsAlready, with_handle}
use Rattle.name_plans.proofs.CreatingStanding.{standing-step, standing-plan}
use Rattle.plan_file.specs.Set.{IsPlannedSet}
use Rattle.v7_sets.specs.Sets.{AreSetsOf}
use Rattle.v7_sets.specs.declared.sets.Sets.{Sets}
use Rattle.plan_name.specs.Creations.{IsTakenName}
use Rattle.plan_name.specs.Planned.{IsPlannedCall}
use Rattle.plan_name.specs.declared.planned.Planned.{Planned}
use Rattle.plan_name.proofs.PlannedCall.{sets-by}

pub standing-planned : (image : Image) (dir : FileId) (name : List ℕ) (wanted : Sattr) (cred : Cred) (now : ℕ) (d : Node) (k : ℕ) (n : Node) (file : FileId) (size : ℕ) → IsStrong (frame image)
    → StandsAlready (view image) dir name wanted d k file.ino n → file ≡ handle_of (view image) file.ino → wanted.size ≡ Some size
    → (left : Sets) → AreSetsOf image left.blocks left.inodes → (made : Planned) (set_reply : Reply) → made.reply ≡ with_handle file set_reply → made.freed.inode ≡ None
    → IsPlannedSet image file (size_alone size) cred now made.plan.puts set_reply made.freed.blocks.items → IsPlannedCall image (Create dir name wanted, cred) now left made
standing-planned image dir name wanted cred now d k n file size strong x handle sized left are made set_reply is none p = record {
  plan = standing-plan image dir name wanted cred now d k file.ino n strong x size sized made.plan.puts
      (subst (λ (f : FileId). IsPlanOf image ((Setattr f (size_alone size), cred) ∷ []) now made.plan.puts) handle p.plan);
  answered = is ∙ ap (with_handle file) p.answered
      ∙ ap (λ (f : FileId). with_handle f (step (view image) (Setattr f (size_alone size)) cred now).0) handle
      ∙ sym (ap (λ (r : Reply × Files). r.0) (standing-step image dir name wanted cred now d k file.ino n strong x size sized));
  sets = sets-by image (Create dir name wanted, cred) now left made refl refl none (p.sets left.blocks left.inodes are);
}

-- ---- the row of a name that is there

refused_first : (b : Bool) (rest : List (Bool × Stat)) (status : Stat) → first_of ((not b, stat.Exist) ∷ []) ≡ Some status → first_of ((not b, stat.Exist) ∷ rest) ≡ Some status
refused_first true rest status e = absurd (cc)
refused_first false rest status e = e

passed_first : (b : Bool) → first_of ((not b, stat.Exist) ∷ []) ≡ None → b ≡ true
passed_first true e = refl
passed_first false e = absurd (cc)

module _ (image : Image) (dir : FileId) (name : List ℕ) (wanted : Sattr) (i : ℕ) (strong : IsStrong (frame image)) (t : IsTakenName image dir name wanted i) where
  abbrev n : Node
  n = node_at image i

  node : get (view image).nodes i ≡ Some n
  node = node-is image strong i t.inode ∙ ap (λ b. cond b (Some (node_at image i)) None) t.used

  pub taken-handle : handle_of (view image) i ≡ record { ino = i; generation = (inode_at image i).generation }
  taken-handle = ap (λ (o : Option ℕ). record { ino = i; generation = unwrap_or o 0 }) (generation-is image strong i t.inode)

  tests : Cred → List (Bool × Stat)
  tests cred = (is_some wanted.size && not (allows cred (attr_of i n) want.Write), stat.Acces) ∷ (ltb size_limit (unwrap_or wanted.size 0), stat.Fbig) ∷ []

  answer : Cred → ℕ → ℕ → Node → Reply × Files
  answer cred now j m = unless (view image) (first_of ((not (is_regular m.kind), stat.Exist) ∷ (is_some wanted.size && not (allows cred (attr_of j m) want.Write), stat.Acces) ∷ (ltb size_limit (unwrap_or wanted.size 0), stat.Fbig) ∷ []))
      (resize_at (view image) j m wanted.size now)

  row : (cred : Cred) (now : ℕ) → step (view image) (Create dir name wanted) cred now ≡ unless (view image) (first_of ((not (is_regular n.kind), stat.Exist) ∷ tests cred)) (resize_at (view image) i n wanted.size now)
  unfolding create_row answer tests
  row cred now =
      ap (λ o. at_live (view image) o (λ m. unless (view image) (first_of (create_tests (view image) m name wanted)) (create_at (view image) dir.ino m name wanted cred now (position (has_name name) m.slots)))) t.live
      ∙ (λ z. unless (view image) (t.tests z) (create_at (view image) dir.ino t.directory name wanted cred now (t.slot z)))
      ∙ (λ z. at_node (view image) (get (view image).nodes (t.number z)) (answer cred now (t.number z)))
      ∙ (λ z. at_node (view image) (node z) (answer cred now i))

  pub taken-refused : (cred : Cred) (now : ℕ) (status : Stat) → first_of ((not (is_regular (stored_attr i (inode_at image i)).kind), stat.Exist) ∷ []) ≡ Some status
      → step (view image) (Create dir name wanted) cred now ≡ (reply.Refused status, view image)
  taken-refused cred now status e = row cred now ∙ ap (λ o. unless (view image) o (resize_at (view image) i n wanted.size now)) (refused_first (is_regular n.kind) (tests cred) status e)

  module _ (passed : first_of ((not (is_regular (stored_attr i (inode_at image i)).kind), stat.Exist) ∷ []) ≡ None) where
    regular : is_regular n.kind ≡ true
    regular = passed_first (is_regular n.kind) passed

    pub taken-stands : StandsAlready (view image) dir name wanted t.directory t.index i n
    taken-stands = record { live = t.live; tests = t.tests; slot = t.slot; number = t.number; node = node; regular = regular }

    pub taken-answer : (cred : Cred) (now : ℕ) → wanted.size ≡ None
        → step (view image) (Create dir name wanted) cred now ≡ (reply.Handle record { ino = i; generation = (inode_at image i).generation } (stored_attr i (inode_at image i)), view image)
    unfolding tests
    taken-answer cred now sized = row cred now
        ∙ (λ z. unless (view image) (first_of ((not (regular z), stat.Exist) ∷ (is_some (sized z) && not (allows cred (attr_of i n) want.Write), stat.Acces) ∷ (ltb size_limit (unwrap_or (sized z) 0), stat.Fbig) ∷ []))
        (resize_at (view image) i n (sized z) now))
        ∙ (λ z. (reply.Handle (taken-handle z) (attr_of-stored image strong i t.used z), view image))
