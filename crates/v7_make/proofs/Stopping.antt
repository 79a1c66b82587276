-- The super-block of a stopped volume is put after the records of its chain.
use Rattle.std.proofs.Common.{◌≡◌, ◌≢◌, ℕ, zero, suc, ◌+◌, ◌<◌, ◌≤◌, Bool, true, false, cond, List, [], ◌∷◌, length, set, refl, sym, ap, subst, ◌∙◌, arith, ⊎_elim, get_or-set_same, get_or-set_other}
use Rattle.std.specs.List.{AllByRecursion, range_with_len, filter}
use Rattle.v7_layout.specs.declared.chain.Chain.{Chain}
use Rattle.v7_layout.specs.declared.super_block.Super.{Super}
use Rattle.v7_layout.specs.Numbers.{part}
use Rattle.v7_layout.specs.Records.{super_of}
use Rattle.v7_layout.specs.Written.{super_bytes}
use Rattle.index_sets.specs.Free.{is_free, count_free}
use Rattle.stable.specs.Store.{Image, SectorPut, KeepsName, name_in}
use Rattle.v7_map.specs.Image.{sector_at}
use Rattle.v7_map.specs.Frame.{frame}
use Rattle.v7_map.specs.Weak.{IsWeak}
use Rattle.v7_map.proofs.SuperPuts.{SameNumbers, super-frame, super-view}
use Rattle.v7_make.specs.Chains.{AreIdle, ChainedFrom, HasPlaces, IsChained, KeepsVolume, Takes}
use Rattle.v7_make.specs.Sets.{rising}
use Rattle.v7_make.specs.Stops.{IsStopped, ListsLowest, chain_in}
use Rattle.v7_make.proofs.Steps.{keeps_then, past_super}
use Rattle.v7_make.proofs.Taking.{takes_elsewhere}

all_far : (p : ℕ → Bool) → ((b : ℕ) → p b ≡ true → 2 ≤ b) → (a n : ℕ) → AllByRecursion (λ x. x ≢ 1) (filter p (range_with_len a n))
all_far p past a zero = tt
all_far p past a (suc n) = by_test (all_far p past (a + 1) n) (p a) refl
  where
    by_test : AllByRecursion (λ x. x ≢ 1) (filter p (range_with_len (a + 1) n)) → (t : Bool) → p a ≡ t → AllByRecursion (λ x. x ≢ 1) (cond t (a ∷ filter p (range_with_len (a + 1) n)) (filter p (range_with_len (a + 1) n)))
    by_test rest true e = ((λ one. omega (arith, one, past a e)), rest)
    by_test rest false e = rest

module _ (old mid : Image) (blocks : List Bool) (c : Chain) (sb after : Super) (bytes : List ℕ) (inodes : List Bool) (now : ℕ) (idle : AreIdle old blocks)
    (chained : ChainedFrom old mid blocks c 0 (length blocks)) (read : sb ≡ super_of (sector_at old 1)) (places : HasPlaces c) (stopped : IsStopped sb after (count_free blocks) (count_free inodes) now) (chain : chain_in after ≡ c)
    (lists : ListsLowest inodes after.s_inode after.s_ninode) (reads_back : super_of bytes ≡ after) (written : bytes ≡ super_bytes after) where
  was : sb ≡ super_of (sector_at mid 1)
  was = read ∙ ap super_of (sym chained.super)

  -- what is kept of the super-block
  kept : {A : Type 0} (field : Super → A) → field after ≡ field sb → field (super_of bytes) ≡ field (super_of (sector_at mid 1))
  kept field same = ap field reads_back ∙ same ∙ ap field was

  numbers : SameNumbers (super_of (sector_at mid 1)) (super_of bytes)
  numbers = record {
    isize = kept (λ s. s.s_isize) (ap (λ (s : Super). s.s_isize) stopped);
    fsize = kept (λ s. s.s_fsize) (ap (λ (s : Super). s.s_fsize) stopped);
    mark = kept (λ s. s.mark) (ap (λ (s : Super). s.mark) stopped);
    read_only = kept (λ s. s.s_ronly) (ap (λ (s : Super). s.s_ronly) stopped);
  }

  weak_mid : IsWeak (frame mid)
  weak_mid = subst IsWeak (sym chained.keeps.frame) idle.weak

  inside : 1 < length mid
  unfolding frame
  inside = let low = weak_mid.sizes.low in let above = weak_mid.sizes.above in let within = weak_mid.sizes.within in omega (arith, low, above, within)

  -- the volume's name stays
  pub stop_name : KeepsName 1 bytes mid
  unfolding super_of part
  stop_name one = kept (λ s. s.s_fpack) (ap (λ (s : Super). s.s_fpack) stopped)

  new : Image
  new = set mid 1 bytes

  here : sector_at new 1 ≡ bytes
  unfolding new
  here = get_or-set_same mid 1 bytes [] inside

  keeps_new : KeepsVolume blocks old new
  unfolding new
  keeps_new = keeps_then blocks old mid (set mid 1 bytes) chained.keeps (record {
    frame = super-frame mid bytes weak_mid numbers;
    view = super-view mid bytes weak_mid numbers;
    name = ap name_in here ∙ stop_name refl;
    elsewhere = λ s ne else'. get_or-set_other mid 1 s bytes [] ne;
  })

  super_new : super_of (sector_at new 1) ≡ after
  super_new = ap super_of here ∙ reads_back

  pub stop_moment : (d : Image) → SectorPut 1 bytes mid d → KeepsVolume blocks old d
  unfolding new
  stop_moment d = ⊎_elim (λ (e : d ≡ mid). subst (KeepsVolume blocks old) (sym e) chained.keeps) (λ (e : d ≡ set mid 1 bytes). subst (KeepsVolume blocks old) (sym e) keeps_new)

  taken : Takes new c (rising blocks)
  unfolding rising new
  taken = takes_elsewhere mid c 1 bytes (filter (is_free blocks) (range_with_len 0 (length blocks))) (all_far (is_free blocks) (past_super old blocks idle) 0 (length blocks)) chained.takes

  pub stop_chained : (d : Image) → d ≡ set mid 1 bytes → IsChained old d blocks inodes now
  unfolding new
  stop_chained d is = subst (λ x. IsChained old x blocks inodes now) (sym is) (record {
    keeps = keeps_new;
    takes = subst (λ x. Takes new x (rising blocks)) (sym (ap chain_in super_new ∙ chain)) taken;
    places = subst HasPlaces (sym (ap chain_in super_new ∙ chain)) places;
    listed = subst (λ (s : Super). ListsLowest inodes s.s_inode s.s_ninode) (sym super_new) lists;
    stopped = subst (λ (s : Super). IsStopped s (super_of (sector_at new 1)) (count_free blocks) (count_free inodes) now) read
        (subst (λ (s : Super). IsStopped sb s (count_free blocks) (count_free inodes) now) (sym super_new) stopped);
    whole = here ∙ written ∙ ap super_bytes (sym super_new);
  })
