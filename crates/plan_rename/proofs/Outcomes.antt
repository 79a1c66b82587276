-- What a RENAME comes to whose old name is found.
use Rattle.std.proofs.Common.{◌≡◌, ◌≢◌, ℕ, ◌/◌, ◌<◌, ◌≤◌, Bool, true, false, cond, not, ◌==◌, List, [], ◌∷◌, ◌++◌, length, Option, Some, None, refl, sym, ap, subst, ◌∙◌, arith, ltb, eqb, eq-eqb}
use Rattle.std.proofs.lemmas.Bool.{eqb-true, ne_eqb}
use Rattle.std.specs.FinMap.{get}
use Rattle.std.specs.List.{position}
use Rattle.files_model.specs.declared.attributes.Attr.{Attr}
use Rattle.files_model.specs.declared.attributes.Kind.{Kind}
use Rattle.files_model.specs.declared.credential.Cred.{Cred}
use Rattle.files_model.specs.declared.reply.Reply.TheVariants as reply
use Rattle.files_model.specs.declared.reply.Stat.{Stat}
use Rattle.files_model.specs.declared.reply.Stat.TheVariants as stat
use Rattle.files_model.specs.Answers.{first_of}
use Rattle.files_model.specs.Files.{Node}
use Rattle.files_model.specs.NameRows.{rename_tests}
use Rattle.files_model.specs.Names.{has_name, name_tests, number_at, place_for}
use Rattle.files_model.specs.Permission.{is_directory}
use Rattle.index_sets.specs.Free.{count_free}
use Rattle.name_places.specs.Places.{IsTakenBy, IsFreeAt, IsFreeAtEnd}
use Rattle.name_plans.specs.Moving.{IsMoving}
use Rattle.name_plans.specs.Replacement.{IsReplacement}
use Rattle.plan_name.specs.declared.making.Spot.{Spot}
use Rattle.rename_puts.specs.Renamed.{GivesName, MovesName, ReplacesName, StandsMoved}
use Rattle.rename_puts.specs.declared.replacing.Lost.{Lost}
use Rattle.rename_puts.specs.declared.slots.Moved.{Moved}
use Rattle.rename_puts.specs.declared.slots.SlotPlace.{SlotPlace}
use Rattle.rename_puts.proofs.Numbers.{node-positive}
use Rattle.stable.specs.Store.{Image}
use Rattle.v7_entries.specs.declared.named.NamedSlot.{NamedSlot}
use Rattle.v7_layout.specs.declared.inode.Inode.{Inode}
use Rattle.v7_layout.specs.declared.slot.Slot.{Slot}
use Rattle.v7_map.specs.Frame.{frame}
use Rattle.v7_map.specs.Image.{inode_at}
use Rattle.v7_map.specs.View.{view, node_at, kind_of}
use Rattle.v7_map.specs.Weak.{IsStrong}
use Rattle.v7_map.proofs.Standing.{attr_of-stored, node-is}
use Rattle.v7_sets.specs.Sets.{AreSetsOf}
use Rattle.v7_strokes.specs.Entries.{entry_sector}
use Rattle.v7_strokes.specs.Over.{slot_from}
use Rattle.plan_rename.specs.Found.{FindsOld, told_of, call_of}
use Rattle.plan_rename.specs.Refusals.{told_tests}
use Rattle.plan_rename.specs.Renames.{Answers, MovesToEnd}
use Rattle.plan_rename.specs.declared.judging.Ends.{Ends}
use Rattle.plan_rename.specs.declared.judging.Growing.{Growing}
use Rattle.plan_rename.specs.declared.judging.OldName.{OldName}
use Rattle.plan_rename.specs.declared.refusals.Told.{Told}
use Rattle.plan_rename.proofs.Row.{row-same, row-late}
use Rattle.plan_rename.proofs.Told.{told-free, told-standing}

-- a refusal by what a function was told
pub refusal-is : (ends : Ends) (old : OldName) (blocks : List Bool) (cred : Cred) (standing : Option Kind) (at_end : Bool) (told : Told) (free : ℕ) (o : Option Stat) → told ≡ told_of ends old standing at_end → free ≡ count_free blocks
    → o ≡ first_of (told_tests told free cred) → first_of (told_tests (told_of ends old standing at_end) (count_free blocks) cred) ≡ o
refusal-is ends old blocks cred standing at_end told free o is counted e = (λ z. first_of (told_tests (sym is z) (sym counted z) cred)) ∙ sym e

module _ (image : Image) (ends : Ends) (name new_name : List ℕ) (old : OldName) (blocks inodes : List Bool) (strong : IsStrong (frame image)) (are : AreSetsOf image blocks inodes)
    (x : FindsOld image ends name new_name old) (cred : Cred) (now : ℕ) where
  abbrev p : Node
  p = node_at image ends.from.ino

  abbrev q : Node
  q = node_at image ends.to.ino

  abbrev i : ℕ
  i = old.slot.ino

  abbrev n : Node
  n = node_at image old.slot.ino

  at_old : get (view image).nodes i ≡ Some n
  at_old = node-is image strong i x.slot.inode ∙ ap (λ b. cond b (Some (node_at image old.slot.ino)) None) x.slot.used

  abbrev place : SlotPlace
  place = record { directory = ends.from.ino; index = old.slot.slot; sector = old.slot.sector }

  stands-moved : (moved : Moved) (l sector : ℕ) → moved.old ≡ place → moved.new ≡ record { directory = ends.to.ino; index = l; sector = sector } → slot_from moved.slot ≡ Some (i, new_name) → sector ≡ entry_sector image ends.to.ino l
      → StandsMoved image (call_of ends name new_name cred) i moved
  stands-moved moved l sector is_old is_new holds stands = record {
    old_directory = ap (λ (m : SlotPlace). m.directory) is_old;
    new_directory = ap (λ (m : SlotPlace). m.directory) is_new;
    old_sector = ap (λ (m : SlotPlace). m.sector) is_old ∙ x.slot.sector ∙ ap (λ (m : SlotPlace). entry_sector image ends.from.ino m.index) (sym is_old);
    new_sector = ap (λ (m : SlotPlace). m.sector) is_new ∙ stands ∙ ap (λ (m : SlotPlace). entry_sector image ends.to.ino m.index) (sym is_new);
    holds = holds;
  }

  -- ---- a name that stands

  module _ (slot : NamedSlot) (t : IsTakenBy image ends.to.ino new_name q slot) where
    pub standing-same : slot.ino ≡ i → Answers image (call_of ends name new_name cred) now reply.Done
    standing-same e = row-same (view image) ends.from ends.to name new_name cred now p q x.live_from x.live_to x.tests old.slot.slot i n x.slot.first x.slot.number at_old (Some slot.slot) t.first (eq-eqb (number_at q.slots slot.slot) i (t.number ∙ e))

    module _ (differ : slot.ino ≢ i) (kind : Kind) (is : kind ≡ kind_of ((inode_at image slot.ino).mode / 4096)) where
      other : (number_at q.slots slot.slot == i) ≡ false
      other = ne_eqb (number_at q.slots slot.slot) i (λ e. differ (sym t.number ∙ e))

      pub standing-refused : (status : Stat) → first_of (told_tests (told_of ends old (Some kind) false) (count_free blocks) cred) ≡ Some status → Answers image (call_of ends name new_name cred) now (reply.Refused status)
      standing-refused status e = row-late (view image) ends.from ends.to name new_name cred now p q x.live_from x.live_to x.tests old.slot.slot i n x.slot.first x.slot.number at_old (Some slot.slot) t.first other status
          (sym (told-standing image ends name new_name old blocks inodes strong are x cred now slot kind t is) ∙ e)

      pub standing-replaced : (moved : Moved) (lost : Lost) (inode : Inode) → first_of (told_tests (told_of ends old (Some kind) false) (count_free blocks) cred) ≡ None
          → moved.old ≡ record { directory = ends.from.ino; index = old.slot.slot; sector = old.slot.sector } → moved.new ≡ record { directory = ends.to.ino; index = slot.slot; sector = slot.sector }
          → slot_from moved.slot ≡ Some (i, new_name) → inode ≡ inode_at image slot.ino → lost ≡ record { node = slot.ino; last = inode.nlink == 1 } → ReplacesName image (call_of ends name new_name cred) now moved lost
      standing-replaced moved lost inode e is_old is_new holds is_inode is_lost = record {
        number = i;
        node = n;
        replaced = node_at image slot.ino;
        old_node = p;
        new_node = q;
        replacement = subst (λ (m : SlotPlace). IsReplacement (view image) ends.from ends.to name new_name cred now i lost.node m.index moved.new.index n (node_at image slot.ino) p q) (sym is_old)
            (subst (λ (m : SlotPlace). IsReplacement (view image) ends.from ends.to name new_name cred now i lost.node old.slot.slot m.index n (node_at image slot.ino) p q) (sym is_new)
            (subst (λ (m : Lost). IsReplacement (view image) ends.from ends.to name new_name cred now i m.node old.slot.slot slot.slot n (node_at image slot.ino) p q) (sym is_lost) (record {
              live_from = x.live_from;
              live_to = x.live_to;
              tests = x.tests;
              slot = x.slot.first;
              number = x.slot.number;
              node = at_old;
              standing = t.first;
              target = t.number;
              replaced = node-is image strong slot.ino t.inode ∙ ap (λ b. cond b (Some (node_at image slot.ino)) None) t.used;
              differ = differ;
              allowed = sym (told-standing image ends name new_name old blocks inodes strong are x cred now slot kind t is) ∙ e;
            })));
        stands = stands-moved moved slot.slot slot.sector is_old is_new holds t.sector;
        last = ap (λ (m : Lost). m.last) is_lost ∙ ap (λ (m : Inode). m.nlink == 1) is_inode ∙ ap (λ (a : Attr). a.nlink == 1) (sym (attr_of-stored image strong slot.ino t.used));
      }

  -- ---- a name that is free

  zero_none : (0 == i) ≡ false
  zero_none = ne_eqb 0 i (λ e. let low = node-positive image i n strong at_old in absurd (omega arith))

  module _ (absent : position (has_name new_name) q.slots ≡ None) (at_end : Bool) (end : at_end ≡ not (ltb (place_for q.slots) (length q.slots))) where
    pub free-refused : (status : Stat) → first_of (told_tests (told_of ends old None at_end) (count_free blocks) cred) ≡ Some status → Answers image (call_of ends name new_name cred) now (reply.Refused status)
    free-refused status e = row-late (view image) ends.from ends.to name new_name cred now p q x.live_from x.live_to x.tests old.slot.slot i n x.slot.first x.slot.number at_old None absent zero_none status
        (sym (told-free image ends name new_name old blocks inodes strong are x cred now at_end end) ∙ e)

    module _ (passed : first_of (told_tests (told_of ends old None at_end) (count_free blocks) cred) ≡ None) where
      allowed : first_of (rename_tests (view image) ends.from p ends.to q None new_name i n cred now) ≡ None
      allowed = sym (told-free image ends name new_name old blocks inodes strong are x cred now at_end end) ∙ passed

      pub free-named : (place' : SlotPlace) (holder : Slot) → (ends.from.ino == ends.to.ino) ≡ true → place' ≡ record { directory = ends.from.ino; index = old.slot.slot; sector = old.slot.sector } → slot_from holder ≡ Some (i, new_name)
          → GivesName image (call_of ends name new_name cred) now place' holder
      free-named place' holder one is holds = let e : ends.to.ino ≡ ends.from.ino = sym (eqb-true ends.from.ino ends.to.ino one) in
          subst (λ m. GivesName image (call_of ends name new_name cred) now m holder) (sym is) (record {
            number = i;
            node = n;
            in_directory = p;
            directory = refl;
            naming = record {
              live_from = x.live_from;
              live_to = x.live_to ∙ ap (λ j. Some (node_at image j)) e;
              one_directory = sym e;
              tests = (λ z. first_of (((view image).read_only, stat.Rofs) ∷ (not (is_directory p.kind), stat.Notdir) ∷ (not (is_directory (node_at image (sym e z)).kind), stat.Notdir) ∷ name_tests name ++ name_tests new_name)) ∙ x.tests;
              slot = x.slot.first;
              number = x.slot.number;
              node = at_old;
              absent = ap (λ j. position (has_name new_name) (node_at image j).slots) (sym e) ∙ absent;
              allowed = ap (λ j. first_of (rename_tests (view image) ends.from p ends.to (node_at image j) None new_name i n cred now)) (sym e) ∙ allowed;
            };
            sector = x.slot.sector;
            holds = holds;
          })

      module _ (two : (ends.from.ino == ends.to.ino) ≡ false) where
        apart : ends.to.ino ≢ ends.from.ino
        apart e = clash (eq-eqb ends.from.ino ends.to.ino (sym e)) two
          where
            clash : {b : Bool} → b ≡ true → b ≡ false → ⊥
            clash {b = b} y z = cc

        moving : IsMoving (view image) ends.from ends.to name new_name cred now i old.slot.slot n p q
        moving = record { live_from = x.live_from; live_to = x.live_to; tests = x.tests; slot = x.slot.first; number = x.slot.number; node = at_old; absent = absent; apart = apart; allowed = allowed }

        pub free-moved : (moved : Moved) (spot : Spot) → IsFreeAt image ends.to new_name q spot → moved.old ≡ record { directory = ends.from.ino; index = old.slot.slot; sector = old.slot.sector }
            → moved.new ≡ record { directory = ends.to.ino; index = spot.index; sector = spot.sector } → slot_from moved.slot ≡ Some (i, new_name) → MovesName image (call_of ends name new_name cred) now moved
        free-moved moved spot free is_old is_new holds = record {
          number = i;
          node = n;
          old_node = p;
          new_node = q;
          moving = subst (λ (m : SlotPlace). IsMoving (view image) ends.from ends.to name new_name cred now i m.index n p q) (sym is_old) moving;
          place = ap (λ (m : SlotPlace). m.index) is_new ∙ free.place;
          inside = subst (λ k. k < length q.slots) (sym (ap (λ (m : SlotPlace). m.index) is_new ∙ free.place)) free.inside;
          stands = stands-moved moved spot.index spot.sector is_old is_new holds free.sector;
        }

        pub free-lengthens : (growing : Growing) → IsFreeAtEnd new_name q → growing ≡ record { old = record { directory = ends.from.ino; index = old.slot.slot; sector = old.slot.sector }; slot = growing.slot; to = ends.to.ino; inode = ends.to_found.inode }
            → slot_from growing.slot ≡ Some (i, new_name) → MovesToEnd image (call_of ends name new_name cred) now growing
        free-lengthens growing end' is holds = record {
          number = i;
          node = n;
          old_node = p;
          new_node = q;
          moving = subst (λ (g : Growing). IsMoving (view image) ends.from ends.to name new_name cred now i g.old.index n p q) (sym is) moving;
          full = end'.full;
          directory = ap (λ (g : Growing). g.old.directory) is;
          sector = ap (λ (g : Growing). g.old.sector) is ∙ x.slot.sector ∙ ap (λ (g : Growing). entry_sector image ends.from.ino g.old.index) (sym is);
          holds = holds;
          to = ap (λ (g : Growing). g.to) is;
          inode_is = ap (λ (g : Growing). g.inode) is ∙ x.to_inode;
        }
