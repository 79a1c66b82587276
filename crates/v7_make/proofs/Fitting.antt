-- The rule of sizes, and what is refused by it.
use Rattle.std.proofs.Common.{◌≡◌, ℕ, ◌≤◌, Bool, true, false, cond, ◌||◌, ltb, refl, Result, Ok, Err}
use Rattle.std.proofs.lemmas.Bool.{ltb-false}
use Rattle.stable.specs.Looked.{Untouched}
use Rattle.stable.specs.Moments.{IsClocked}
use Rattle.stable.specs.declared.store.Stable.{Ghosts}
use Rattle.stable.proofs.Clocked.{started}
use Rattle.v7_make.specs.declared.fault.MakeFault.{MakeFault}
use Rattle.v7_make.specs.declared.fault.MakeFault.TheVariants.{TooSmall, TooLarge, Failed, NoMemory}
use Rattle.v7_make.specs.Made.{Says}
use Rattle.v7_make.specs.Sizes.{need_of, fitting}

abbrev judged : Bool → Bool → Bool → ℕ → ℕ → Result (Unit {0}) MakeFault
judged many inodes small need have = cond (many || inodes) (Err TooLarge) (cond small (Err (TooSmall need have)) (Ok tt))

all_false : (a b c : Bool) (n h : ℕ) → judged a b c n h ≡ Ok tt → (a ≡ false) × (b ≡ false) × (c ≡ false)
all_false true b c n h e = absurd (cc)
all_false false true c n h e = absurd (cc)
all_false false false true n h e = absurd (cc)
all_false false false false n h e = (refl, refl, refl)

not_failed : (a b c : Bool) (n h : ℕ) → judged a b c n h ≡ Err Failed → ⊥
not_failed true b c n h e = absurd (cc)
not_failed false true c n h e = absurd (cc)
not_failed false false true n h e = absurd (cc)
not_failed false false false n h e = absurd (cc)

not_full : (a b c : Bool) (n h : ℕ) → judged a b c n h ≡ Err NoMemory → ⊥
not_full true b c n h e = absurd (cc)
not_full false true c n h e = absurd (cc)
not_full false false true n h e = absurd (cc)
not_full false false false n h e = absurd (cc)

-- what fits has room
pub fitting-room : (size inodes : ℕ) → fitting size inodes ≡ Ok tt → (size ≤ 1048576) × (inodes ≤ 65528) × (need_of inodes ≤ size)
unfolding fitting
fitting-room size inodes ok =
    let tests = all_false (ltb 1048576 size) (ltb 65528 inodes) (ltb size (need_of inodes)) (need_of inodes) size ok in
    (ltb-false 1048576 size tests.0, ltb-false 65528 inodes tests.1, ltb-false size (need_of inodes) tests.2)

module _ {S : Type 0} (s : Ghosts S) where
  pub refused : (size inodes : ℕ) (old new : S) (fault : MakeFault) → fitting size inodes ≡ Err fault → Untouched s old new → Says s size inodes old new (Err fault)
  unfolding fitting
  refused size inodes old new TooLarge is same = (is, same)
  refused size inodes old new (TooSmall need have) is same = (is, same)
  refused size inodes old new NoMemory is same = absurd (not_full (ltb 1048576 size) (ltb 65528 inodes) (ltb size (need_of inodes)) (need_of inodes) size is)
  refused size inodes old new Failed is same = absurd (not_failed (ltb 1048576 size) (ltb 65528 inodes) (ltb size (need_of inodes)) (need_of inodes) size is)

  pub untouched : IsClocked s.tells s.image s.moment s.left_since → (store : S) → Untouched s store store
  untouched clocked store = record {
    image = refl;
    crash = started clocked store (λ i. i ≡ s.image store) (λ tells. refl);
    opens = λ t le opens. opens;
    moment = refl;
    faults = refl;
    sectors = refl;
    snapshot = refl;
  }
