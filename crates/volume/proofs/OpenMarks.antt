-- The super-block of an open volume is put.
use Rattle.std.proofs.Common.{◌≡◌, ℕ, ◌<◌, List, [], length, set, refl, sym, ap, ◌∙◌, subst, arith, inl, inr, get_or-set_same, get_or-set_other}
use Rattle.v7_layout.specs.Numbers.{part}
use Rattle.v7_layout.specs.Records.{super_of}
use Rattle.v7_layout.specs.Written.{super_bytes}
use Rattle.v7_layout.specs.declared.super_block.Super.{Super}
use Rattle.stable.specs.Store.{Image, SectorPut, KeepsName, name_in}
use Rattle.v7_map.specs.Image.{sector_at}
use Rattle.v7_map.specs.Frame.{frame}
use Rattle.v7_map.specs.Weak.{IsWeak}
use Rattle.v7_map.proofs.SuperPuts.{SameNumbers, super-frame, super-view}
use Rattle.volume.specs.Keeps.{SameName}
use Rattle.volume.specs.Marks.{IsMarked, MayMark, running}

-- the name is part of what the super-block's reading has
name-super : (bytes : List ℕ) → (super_of bytes).s_fpack ≡ name_in bytes
unfolding super_of part
name-super bytes = refl

module _ (old mid : Image) (sb : Super) (bytes : List ℕ) (now : ℕ) (same : mid ≡ old) (weak : IsWeak (frame old)) (read : sb ≡ super_of (sector_at old 1))
    (reads_back : super_of bytes ≡ running sb now) (written : bytes ≡ super_bytes (running sb now)) where
  super_now : super_of bytes ≡ running (super_of (sector_at old 1)) now
  super_now = reads_back ∙ ap (λ (s : Super). running s now) read

  numbers : SameNumbers (super_of (sector_at old 1)) (super_of bytes)
  numbers = record {
    isize = ap (λ (s : Super). s.s_isize) super_now;
    fsize = ap (λ (s : Super). s.s_fsize) super_now;
    mark = ap (λ (s : Super). s.mark) super_now;
    read_only = ap (λ (s : Super). s.s_ronly) super_now;
  }

  inside : 1 < length old
  unfolding frame
  inside = let low = weak.sizes.low in let above = weak.sizes.above in let within = weak.sizes.within in omega (arith, low, above, within)

  here : sector_at (set old 1 bytes) 1 ≡ bytes
  here = get_or-set_same old 1 bytes [] inside

  marked_here : IsMarked old (set old 1 bytes) now
  marked_here = record {
    frame = super-frame old bytes weak numbers;
    view = super-view old bytes weak numbers;
    super = ap super_of here ∙ super_now;
    whole = here ∙ written ∙ ap super_bytes (sym reads_back) ∙ ap (λ b. super_bytes (super_of b)) (sym here);
    elsewhere = λ s ne. get_or-set_other old 1 s bytes [] ne;
  }

  pub marked : (new : Image) → new ≡ set mid 1 bytes → IsMarked old new now
  marked new is = subst (λ (x : Image). IsMarked old x now) (ap (λ (x : Image). set x 1 bytes) (sym same) ∙ sym is) marked_here

  pub mark_moment : (d : Image) → SectorPut 1 bytes mid d → MayMark old now d
  mark_moment d (inl e) = inl (e ∙ same)
  mark_moment d (inr e) = inr (marked d e)

  pub mark_name : KeepsName 1 bytes mid
  mark_name one = sym (name-super bytes) ∙ ap (λ (s : Super). s.s_fpack) super_now ∙ name-super (sector_at old 1) ∙ ap (λ (x : Image). name_in (sector_at x 1)) (sym same)

-- the name stays where a volume is marked
pub marked_name : (old new : Image) (now : ℕ) → IsMarked old new now → SameName old new
marked_name old new now is = sym (name-super (sector_at new 1)) ∙ ap (λ (s : Super). s.s_fpack) is.super ∙ name-super (sector_at old 1)
