-- What a put of a new volume leaves alone.
use Rattle.std.proofs.Common.{◌≡◌, inl, inr, ℕ, ◌<◌, ◌≤◌, Bool, true, false, List, [], refl, sym, ap, subst, ◌∙◌, arith, ⊎_elim, length-set, get_or-set_other}
use Rattle.std.proofs.lemmas.Bool.{cases_Bool, cases_lt}
use Rattle.std.proofs.lemmas.List.{get_or_past}
use Rattle.index_sets.specs.Free.{is_free}
use Rattle.stable.specs.Store.{Image, SectorPut}
use Rattle.v7_map.specs.Frame.{Frame, frame}
use Rattle.v7_make.specs.Chains.{KeepsVolume}
use Rattle.v7_make.specs.Sets.{AreFrom}
use Rattle.v7_make.specs.Made.{KeepsButInodes, KeepsOutside}

pub inodes_none : (image : Image) (isize : ℕ) → KeepsButInodes isize image image
inodes_none image isize = (refl, λ s else'. refl)

-- one sector of inodes more
pub inodes_more : (old mid new : Image) (isize sector : ℕ) (bytes : List ℕ) → 2 ≤ sector → sector < isize → KeepsButInodes isize old mid → SectorPut sector bytes mid new → KeepsButInodes isize old new
inodes_more old mid new isize sector bytes low high keeps (inl e) = subst (KeepsButInodes isize old) (sym e) keeps
inodes_more old mid new isize sector bytes low high keeps (inr e) = subst (KeepsButInodes isize old) (sym e)
    (length-set mid sector bytes ∙ keeps.0, λ s else'. get_or-set_other mid sector s bytes [] (λ same. let past = else' (omega (arith, same, low)) in omega (arith, same, past, high)) ∙ keeps.1 s else')

pub inodes_outside : (old new : Image) (isize size : ℕ) → isize ≤ size → KeepsButInodes isize old new → KeepsOutside size old new
inodes_outside old new isize size le keeps = record {
  long = keeps.0;
  boot = keeps.1 0 (λ two. absurd (omega (arith, two)));
  past = λ s far. keeps.1 s (λ two. omega (arith, le, far));
}

pub outside_none : (image : Image) (size : ℕ) → KeepsOutside size image image
outside_none image size = record { long = refl; boot = refl; past = λ s far. refl }

-- one sector of the volume more
pub outside_more : (old mid new : Image) (size sector : ℕ) (bytes : List ℕ) → 1 ≤ sector → sector < size → KeepsOutside size old mid → SectorPut sector bytes mid new → KeepsOutside size old new
outside_more old mid new size sector bytes low high keeps (inl e) = subst (KeepsOutside size old) (sym e) keeps
outside_more old mid new size sector bytes low high keeps (inr e) = subst (KeepsOutside size old) (sym e) (record {
  long = length-set mid sector bytes ∙ keeps.long;
  boot = get_or-set_other mid sector 0 bytes [] (λ same. omega (arith, same, low)) ∙ keeps.boot;
  past = λ s far. get_or-set_other mid sector s bytes [] (λ same. omega (arith, same, far, high)) ∙ keeps.past s far;
})

differ : (b : Bool) → b ≡ true → b ≡ false → ⊥
differ true e f = absurd (cc)
differ false e f = absurd (cc)

none_above : (from size : ℕ) (blocks : List Bool) → AreFrom from size blocks → (b : ℕ) → size ≤ b → is_free blocks b ≡ false
none_above from size blocks are b le = get_or_past blocks b false (let long = are.long in omega (arith, le, long))

-- each number of the set is below its size
pub from_below : (from size : ℕ) (blocks : List Bool) → AreFrom from size blocks → (b : ℕ) → is_free blocks b ≡ true → b < size
from_below from size blocks are b there = ⊎_elim (λ (lt : b < size). lt) (λ (ge : size ≤ b). absurd (differ (is_free blocks b) there (none_above from size blocks are b ge))) (cases_lt b size)

-- a chain of blocks of the volume
pub chain_outside : (old mid new : Image) (from size : ℕ) (blocks : List Bool) → 1 ≤ from → 1 < size → AreFrom from size blocks → KeepsOutside size old mid → KeepsVolume blocks mid new → KeepsOutside size old new
unfolding frame
chain_outside old mid new from size blocks low some are keeps chain = record {
  long = ap (λ (f : Frame). f.sectors) chain.frame ∙ keeps.long;
  boot = chain.elsewhere 0 (λ e. omega (arith, e)) (⊎_elim
      (λ (there : is_free blocks 0 ≡ true). let past = are.only 0 there in absurd (omega (arith, past, low)))
      (λ (none : is_free blocks 0 ≡ false). none)
      (cases_Bool (is_free blocks 0))) ∙ keeps.boot;
  past = λ s far. chain.elsewhere s (λ e. omega (arith, e, far, some)) (none_above from size blocks are s far) ∙ keeps.past s far;
}
