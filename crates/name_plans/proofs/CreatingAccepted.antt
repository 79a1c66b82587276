-- What the step of an accepted call is, and what is known of its nodes.
use Rattle.std.proofs.Common.{◌≡◌, ℕ, zero, suc, ◌+◌, ◌-◌, ◌<◌, ◌≤◌, Bool, true, false, cond, ◌&&◌, List, [], ◌∷◌, Option, Some, None, refl, ap, subst, ◌∙◌, arith, ltb, unwrap_or}
use Rattle.std.specs.List.{range_with_len, find, position}
use Rattle.std.specs.Option.{is_none}
use Rattle.std.specs.FinMap.{get}
use Rattle.files_model.specs.declared.attributes.FileId.{FileId}
use Rattle.files_model.specs.declared.attributes.Sattr.{Sattr}
use Rattle.files_model.specs.declared.credential.Cred.{Cred}
use Rattle.files_model.specs.declared.call.Call.TheVariants as call
use Rattle.files_model.specs.declared.reply.Stat.{Stat}
use Rattle.files_model.specs.declared.reply.Stat.TheVariants as stat
use Rattle.files_model.specs.declared.reply.Reply.TheVariants as reply
use Rattle.files_model.specs.Files.{Node, Files}
use Rattle.files_model.specs.Answers.{at_live, unless, first_of, attr_of}
use Rattle.files_model.specs.NameRows.{create_row, create_at, at_usable, create_tests, is_full_for}
use Rattle.files_model.specs.Names.{has_name, lowest_usable, is_usable, with_entry, new_file, made_at}
use Rattle.files_model.specs.Step.{step}
use Rattle.name_plans.specs.Making.{IsCreation}

-- no refusal, so no test holds
pub first_none : (b : Bool) (status : Stat) (tests : List (Bool × Stat)) → first_of ((b, status) ∷ tests) ≡ None → (b ≡ false) × (first_of tests ≡ None)
first_none true status tests e = absurd (cc)
first_none false status tests e = (refl, e)

pub creation-step : (files : Files) (dir : FileId) (name : List ℕ) (wanted : Sattr) (cred : Cred) (now : ℕ) (d : Node) (i : ℕ) → IsCreation files dir name wanted cred now d i
    → step files (call.Create dir name wanted) cred now
    ≡ (
      reply.Handle (record { ino = i; generation = unwrap_or (get files.generations i) 0 + 1 }) (attr_of i (new_file wanted cred now)),
      made_at files i (new_file wanted cred now) dir.ino (with_entry d (Some (i, name)) now),
    )
unfolding create_row
creation-step files dir name wanted cred now d i c =
    ap (λ o. at_live files o (λ n. unless files (first_of (create_tests files n name wanted)) (create_at files dir.ino n name wanted cred now (position (has_name name) n.slots)))) c.live
    ∙ (λ z. unless files (c.tests z) (create_at files dir.ino d name wanted cred now (c.absent z)))
    ∙ (λ z. unless files (c.entry z) (at_usable files (c.usable z) (λ j.
    unless files (first_of ((is_full_for files d (with_entry d (Some (j, name)) now), stat.Nospc) ∷ [])) (
      reply.Handle (record { ino = j; generation = unwrap_or (get files.generations j) 0 + 1 }) (attr_of j (new_file wanted cred now)),
      made_at files j (new_file wanted cred now) dir.ino (with_entry d (Some (j, name)) now),
    ))))
    ∙ (λ z. unless files (c.room z) (
      reply.Handle (record { ino = i; generation = unwrap_or (get files.generations i) 0 + 1 }) (attr_of i (new_file wanted cred now)),
      made_at files i (new_file wanted cred now) dir.ino (with_entry d (Some (i, name)) now),
    ))

-- ---- what a usable i-number is

find_passes : (p : ℕ → Bool) (a n i : ℕ) → find p (range_with_len a n) ≡ Some i → (p i ≡ true) × (a ≤ i) × (i < a + n)
find_passes p a zero i e = absurd (cc)
find_passes p a (suc n) i e = elim (p a) as (λ b. p a ≡ b → cond b (Some a) (find p (range_with_len (a + 1) n)) ≡ Some i → (p i ≡ true) × (a ≤ i) × (i < a + suc n)) [
  | true ↦ λ t is. let s : a ≡ i = cc in (subst (λ z. p z ≡ true) s t, omega arith, omega arith)
  | false ↦ λ t is. let r = find_passes p (a + 1) n i is in let low = r.1 in let high = r.2 in (r.0, omega arith, omega arith)
] refl e

and_parts : (a b : Bool) → (a && b) ≡ true → (a ≡ true) × (b ≡ true)
and_parts true b e = (refl, e)
and_parts false b e = absurd (cc)

none_is : (o : Option Node) → is_none o ≡ true → o ≡ None
none_is None e = refl
none_is (Some n) e = absurd (cc)

below_of : (a b : ℕ) → ltb a b ≡ true → a < b
below_of a b e = grind arith

pub usable-facts : (files : Files) (i : ℕ) → lowest_usable files ≡ Some i → (get files.nodes i ≡ None) × (unwrap_or (get files.generations i) 0 < 4294967295) × (3 ≤ i) × (i < 3 + (files.inodes - 2))
usable-facts files i e = let r = find_passes (is_usable files) 3 (files.inodes - 2) i e in
    let a = and_parts (is_none (get files.nodes i)) (ltb (unwrap_or (get files.generations i) 0) 4294967295) r.0 in
    (none_is (get files.nodes i) a.0, below_of (unwrap_or (get files.generations i) 0) 4294967295 a.1, r.1, r.2)
