-- The chain as it is written, block by block.
use Rattle.std.proofs.Common.{◌≡◌, ◌≢◌, inl, inr, ℕ, zero, suc, ◌+◌, ◌<◌, ◌≤◌, Bool, true, false, cond, List, [], ◌∷◌, set, refl, sym, ap, subst, ◌∙◌, arith, get_or-set_other}
use Rattle.std.specs.List.{AllByRecursion, range_with_len, filter}
use Rattle.v7_layout.specs.declared.chain.Chain.{Chain}
use Rattle.v7_layout.specs.Numbers.{field}
use Rattle.index_sets.specs.Free.{is_free}
use Rattle.stable.specs.Store.{Image, SectorPut, name_in}
use Rattle.v7_map.specs.Image.{sector_at, isize_of}
use Rattle.v7_map.specs.Frame.{Frame, frame}
use Rattle.v7_map.specs.Weak.{IsWeak}
use Rattle.v7_map.proofs.Unheld.{unheld-frame, unheld-view}
use Rattle.v7_make.specs.Chains.{AreIdle, ChainedFrom, KeepsVolume, PutsAt, PutsItem, Takes, TakesMore}

pub puts_at : (old d : Image) (sector : ℕ) (bytes : List ℕ) → SectorPut sector bytes old d → PutsAt sector old d
puts_at old d sector bytes (inl e) = inl e
puts_at old d sector bytes (inr e) = inr (bytes, e)

pub keeps_none : (image : Image) (blocks : List Bool) → KeepsVolume blocks image image
keeps_none image blocks = record { frame = refl; view = refl; name = refl; elsewhere = λ s ne else'. refl }

pub keeps_then : (blocks : List Bool) (old mid new : Image) → KeepsVolume blocks old mid → KeepsVolume blocks mid new → KeepsVolume blocks old new
keeps_then blocks old mid new a b = record { frame = b.frame ∙ a.frame; view = b.view ∙ a.view; name = b.name ∙ a.name; elsewhere = λ s ne else'. b.elsewhere s ne else' ∙ a.elsewhere s ne else' }

low_isize : (image : Image) → IsWeak (frame image) → 3 ≤ isize_of image
unfolding frame
low_isize image weak = weak.sizes.low

-- a block of the set is past the super-block
pub past_super : (image : Image) (blocks : List Bool) → AreIdle image blocks → (b : ℕ) → is_free blocks b ≡ true → 2 ≤ b
past_super image blocks idle b there = let low = low_isize image idle.weak in let past = idle.past b there in omega (arith, low, past)

is_other : (b : Bool) → b ≡ true → b ≡ false → ⊥
is_other true e f = absurd (cc)
is_other false e f = absurd (cc)

-- a block that stands nowhere is put
idle_same : (image : Image) (blocks : List Bool) (b : ℕ) (bytes : List ℕ) → AreIdle image blocks → is_free blocks b ≡ true → KeepsVolume blocks image (set image b bytes)
idle_same image blocks b bytes idle there =
    let past : 2 ≤ b = past_super image blocks idle b there in
    record {
      frame = unheld-frame image b bytes idle.weak (idle.past b there) (λ i p. idle.unheld b there i p);
      view = unheld-view image b bytes idle.weak (idle.past b there) (λ i p. idle.unheld b there i p);
      name = ap name_in (get_or-set_other image b 1 bytes [] (λ e. omega (arith, e, past)));
      elsewhere = λ s ne else'. get_or-set_other image b s bytes [] (λ e. is_other (is_free blocks s) (ap (is_free blocks) e ∙ there) else');
    }

all_past : (p : ℕ → Bool) (b a n : ℕ) → b < a → AllByRecursion (λ x. x ≢ b) (filter p (range_with_len a n))
all_past p b a zero lt = tt
all_past p b a (suc n) lt = by_test (all_past p b (a + 1) n (omega arith)) (p a)
  where
    by_test : AllByRecursion (λ x. x ≢ b) (filter p (range_with_len (a + 1) n)) → (t : Bool) → AllByRecursion (λ x. x ≢ b) (cond t (a ∷ filter p (range_with_len (a + 1) n)) (filter p (range_with_len (a + 1) n)))
    by_test rest true = ((λ e. omega (arith, lt, e)), rest)
    by_test rest false = rest

pub at_numbers : (old new : Image) (blocks : List Bool) (c : Chain) {n m count more : ℕ} → n ≡ m → count ≡ more → ChainedFrom old new blocks c n count → ChainedFrom old new blocks c m more
at_numbers old new blocks c {n} {m} {count} {more} e f chained = subst (λ k. ChainedFrom old new blocks c m k) f (subst (λ k. ChainedFrom old new blocks c k count) e chained)

-- before the first block
pub chained_none : (image : Image) (blocks : List Bool) (c : Chain) (n : ℕ) → Takes image c [] → ChainedFrom image image blocks c n 0
chained_none image blocks c n takes = record { keeps = keeps_none image blocks; super = refl; takes = takes }

module _ (old mid : Image) (blocks : List Bool) (c : Chain) (n count b : ℕ) (idle : AreIdle old blocks) (so_far : ChainedFrom old mid blocks c n count) (next : b + 1 ≡ n) where
  isize_mid : isize_of mid ≡ isize_of old
  isize_mid = ap (λ s. field s 0 2) so_far.super

  idle_mid : AreIdle mid blocks
  idle_mid = record {
    weak = subst IsWeak (sym so_far.keeps.frame) idle.weak;
    past = λ a there. subst (λ m. m ≤ a) (sym isize_mid) (idle.past a there);
    unheld = λ a there i p e. idle.unheld a there i p (ap (λ (f : Frame). f.address i p) (sym so_far.keeps.frame) ∙ e);
  }

  -- what a put of the block leaves
  record Leaves (new : Image) : Type 0 where
    keeps : KeepsVolume blocks old new
    super : sector_at new 1 ≡ sector_at old 1

  leaves_at : (new : Image) → is_free blocks b ≡ true → PutsAt b mid new → Leaves new
  leaves_at new there (inl e) = subst Leaves (sym e) (record { keeps = so_far.keeps; super = so_far.super })
  leaves_at new there (inr put) = subst Leaves (sym put.1) (record {
    keeps = keeps_then blocks old mid (set mid b put.0) so_far.keeps (idle_same mid blocks b put.0 idle_mid there);
    super = get_or-set_other mid b 1 put.0 [] (λ e. let past = past_super old blocks idle b there in omega (arith, e, past)) ∙ so_far.super;
  })

  leaves : (new : Image) → PutsItem blocks b mid new → Leaves new
  leaves new (inl e) = subst Leaves (sym e) (record { keeps = so_far.keeps; super = so_far.super })
  leaves new (inr put) = leaves_at new put.0 put.1

  pub chain_moment : (new : Image) → PutsItem blocks b mid new → KeepsVolume blocks old new
  chain_moment new put = (leaves new put).keeps

  pub chain_step : (new : Image) (d : Chain) → PutsItem blocks b mid new → TakesMore mid c new d b (is_free blocks b) → ChainedFrom old new blocks d b (suc count)
  chain_step new d put more = let l = leaves new put in record {
    keeps = l.keeps;
    super = l.super;
    takes = subst (Takes new d) (λ z. cond (is_free blocks b) (b ∷ filter (is_free blocks) (range_with_len (next' z) count)) (filter (is_free blocks) (range_with_len (next' z) count)))
        (more (filter (is_free blocks) (range_with_len n count)) (all_past (is_free blocks) b n count (omega (arith, next))) so_far.takes);
  }
    where
      next' : n ≡ b + 1
      next' = sym next
