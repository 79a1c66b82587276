-- The entry in a slot.
use Rattle.std.proofs.Common.{◌≡◌, ◌≢◌, ℕ, ◌+◌, Bool, true, false, cond, not, ◌==◌, List, Some, None, refl, sym, ap, ◌∙◌, eq-eqb}
use Rattle.std.proofs.lemmas.Bool.{ne_eqb}
use Rattle.std.specs.List.{take_while}
use Rattle.files_model.specs.declared.entries.Entry.{Entry}
use Rattle.v7_layout.specs.Records.{slot_of_bytes}
use Rattle.v7_layout.specs.declared.slot.Slot.{Slot}
use Rattle.v7_map.specs.Frame.{slot_of}
use Rattle.v7_contents.specs.Pages.{entry_of}

module _ (k : ℕ) (bytes : List ℕ) (stored : Slot) (is : stored ≡ slot_of_bytes bytes) where
  abbrev named : Slot → Entry
  named s = record { fileid = s.ino; name = take_while (λ b. not (b == 0)) s.name; cookie = k + 1 }

  by_number : entry_of k (slot_of bytes) ≡ cond (stored.ino == 0) None (Some (named stored))
  unfolding slot_of
  by_number = by_test ((slot_of_bytes bytes).ino == 0) ∙ ap (λ (s : Slot). cond (s.ino == 0) None (Some (named s))) (sym is)
    where
      by_test : (b : Bool) → entry_of k (cond b None (Some ((slot_of_bytes bytes).ino, take_while (λ b. not (b == 0)) (slot_of_bytes bytes).name))) ≡ cond b None (Some (named (slot_of_bytes bytes)))
      by_test true = refl
      by_test false = refl

  -- an empty one has none
  pub no_entry : stored.ino ≡ 0 → None ≡ entry_of k (slot_of bytes)
  no_entry empty = sym (by_number ∙ ap (λ b. cond b None (Some (named stored))) (eq-eqb stored.ino 0 empty))

  pub one_entry : stored.ino ≢ 0 → Some (named stored) ≡ entry_of k (slot_of bytes)
  one_entry used = sym (by_number ∙ ap (λ b. cond b None (Some (named stored))) (ne_eqb stored.ino 0 used))
