-- A directory that is laid out by its places gets longer so.
use Rattle.std.proofs.Common.{◌≡◌, ◌≢◌, ℕ, zero, suc, ◌+◌, ◌-◌, ◌/◌, ◌%◌, ◌<◌, ◌≤◌, min, max, Bool, true, false, cond, ◌&&◌, ◌==◌, List, [], ◌∷◌, ◌++◌, length, drop, get_or, refl, sym, ap, subst, ◌∙◌, arith, ⊎_elim, eqb, leb, ltb, eq-eqb, Option, Some, None, IfSome, IfNone, IsSomeAnd}
use Rattle.std.proofs.lemmas.List.{drop-drop}
use Rattle.std.proofs.lemmas.Bool.{cases_eq, cases_lt, ne_eqb, eqb-true, lt-ltb, le-leb, leb-true}
use Rattle.files_model.specs.Batch.{one_if}
use Rattle.files_model.specs.Files.{sectors_of}
use Rattle.index_sets.specs.Free.{count_free, IsLowestFrom}
use Rattle.plan_file.specs.Free.{AreSpare, count_from}
use Rattle.plan_file.specs.Places.{place_within, map_place, ArePlaces, AreThrough}
use Rattle.plan_file.specs.declared.places.Places.{Places}
use Rattle.plan_file.proofs.Freed.{spare-of}
use Rattle.plan_file.proofs.Placing.{lowest-next}
use Rattle.v7_space.proofs.Counting.{count-cons}
use Rattle.stable.specs.Store.{Image}
use Rattle.v7_layout.specs.declared.inode.Inode.{Inode}
use Rattle.v7_map.specs.Frame.{Place, Body, Single, head_of, address_of, frame}
use Rattle.v7_map.specs.Weak.{IsGood}
use Rattle.v7_map.proofs.AnyFrame.{frame-IsFrame}
use Rattle.v7_map.proofs.Frames.{and_left, and_right}
use Rattle.v7_map.proofs.Walks.{and_both}
use Rattle.v7_sets.specs.Sets.{IsFreeBlock}
use Rattle.name_plans.specs.Lengthening.{MapPuts}
use Rattle.name_plans.specs.Taken.{AreNewBlocks}
use Rattle.plan_name.specs.Creating.{map_puts}
use Rattle.plan_name.specs.Growth.{added_blocks}
use Rattle.plan_name.specs.LayingOut.{AreLowest, MayGrow, needed_blocks, PutsMap, IsLaid, LaysLonger, if_new, one_of, new_list, past, past_new, body_with}
use Rattle.plan_name.specs.declared.creating_puts.Listing.{Listing}
use Rattle.plan_name.specs.declared.laying_out.Laid.{Laid}
use Rattle.plan_name.proofs.Targets.{laid_at, laid-target, laid-new, laid-map}

-- what a block of addresses lists is what reads the same
pub map-same : (q : ℕ) (fresh : Bool) (single : ℕ) (at there : ℕ → ℕ) → ((l : ℕ) → l < 138 → at l ≡ there l) → (o : Option Listing) → PutsMap q fresh single at o → PutsMap q fresh single there o
map-same q fresh single at there each None h = h
map-same q fresh single at there each (Some listing) (ge, new, block, long, reads) = (ge, new, block, long, λ l low high. reads l low high ∙ each l high)

-- a block of addresses that is put stands where the chosen one does
pub map-within : (q sectors : ℕ) (fresh : Bool) (single : ℕ) (at : ℕ → ℕ) → (10 ≤ q → single ≢ 0) → (single ≢ 0 → (2 ≤ single) × (single < min sectors 1048576)) → (o : Option Listing) → PutsMap q fresh single at o
    → IfSome o (λ listing. (2 ≤ listing.block) × (listing.block < sectors))
map-within q sectors fresh single at some' within None h = tt
map-within q sectors fresh single at some' within (Some listing) (ge, new, block, long, reads) =
    let w = within (some' ge) in let low = w.0 in let high = w.1 in subst (λ c. (2 ≤ c) × (c < sectors)) (sym block) (low, omega arith)

-- a block that is another than before is a new one
when-new : (P : ℕ → Type 0) (old new : ℕ) → (old ≢ new → P new) → IfSome (if_new old new) P
when-new P old new h = ⊎_elim
    (λ (e : old ≡ new). subst (λ t. IfSome (cond t None (Some new)) P) (sym (eq-eqb old new e)) tt)
    (λ (ne : old ≢ new). subst (λ t. IfSome (cond t None (Some new)) P) (sym (ne_eqb old new ne)) (h ne))
    (cases_eq old new)

pub are-lowest : (blocks : List Bool) (places : Places) (q : ℕ) (laid : Laid) → IsLaid blocks places q laid → AreLowest blocks laid
are-lowest blocks places q laid x = record {
  sector = subst (λ o. IfSome o (λ a. IsLowestFrom blocks 0 (Some a))) (sym x.new_sector)
      (when-new (λ a. IsLowestFrom blocks 0 (Some a)) (get_or places.body q 0) laid.sector (λ ne. ⊎_elim
      (λ (z : get_or places.body q 0 ≡ 0). x.chosen.sector.new z)
      (λ (nz : get_or places.body q 0 ≢ 0). absurd (ne (sym (x.chosen.sector.old nz))))
      (cases_eq (get_or places.body q 0) 0)));
  map = subst (λ o. IfSome o (λ a. IsLowestFrom blocks (laid.sector + 1) (Some a))) (sym x.new_map)
      (when-new (λ a. IsLowestFrom blocks (laid.sector + 1) (Some a)) places.single laid.longer.blocks.single (λ ne. ⊎_elim
      (λ (z : places.single ≡ 0). ⊎_elim
      (λ (lt : q < 10). absurd (ne (sym (x.chosen.single.direct lt))))
      (λ (ge : 10 ≤ q). x.chosen.single.new z ge)
      (cases_lt q 10))
      (λ (nz : places.single ≢ 0). absurd (ne (sym (x.chosen.single.old nz))))
      (cases_eq places.single 0)));
}

pub all-lowest : (blocks : List Bool) (places : Places) (q : ℕ) (o : Option Laid) → IfSome o (IsLaid blocks places q) → IfSome o (AreLowest blocks)
all-lowest blocks places q None x = tt
all-lowest blocks places q (Some laid) x = are-lowest blocks places q laid x

-- ---- what is free past the new blocks

past-if : (old new : ℕ) → new ≡ old → past (if_new old new) ≡ 0
past-if old new e = ap (λ b. past (cond b None (Some new))) (eq-eqb old new (sym e))

past-of : (old new : ℕ) → old ≢ new → past (if_new old new) ≡ new + 1
past-of old new ne = ap (λ b. past (cond b None (Some new))) (ne_eqb old new ne)

-- from later on there are no more
fewer-dropped : (n : ℕ) (xs : List Bool) → count_free (drop n xs) ≤ count_free xs
fewer-dropped zero xs = omega arith
fewer-dropped (suc n) [] = omega arith
fewer-dropped (suc n) (b ∷ bs) = let c = count-cons (λ (x : Bool). x) b bs in let r = fewer-dropped n bs in omega arith

module _ (blocks : List Bool) (places : Places) (q : ℕ) (through : AreThrough places) (laid : Laid) (x : IsLaid blocks places q laid) where
  abbrev one_sector : ℕ
  one_sector = one_if (get_or places.body q 0 == 0)

  abbrev one_map : ℕ
  one_map = one_if (leb 10 q && (places.single == 0))

  past-is : past_new laid.new ≡ max (past (if_new (get_or places.body q 0) laid.sector)) (past (if_new places.single laid.longer.blocks.single))
  past-is z = max (past (x.new_sector z)) (past (x.new_map z))

  -- no block is new where the sector isn't
  none-new : get_or places.body q 0 ≢ 0 → past_new laid.new ≡ 0
  none-new h = past-is ∙ (λ z. max (past-if (get_or places.body q 0) laid.sector (x.chosen.sector.old h) z) (past-if places.single laid.longer.blocks.single single_stays z))
    where
      single_stays : laid.longer.blocks.single ≡ places.single
      single_stays = ⊎_elim (λ (lt : q < 10). x.chosen.single.direct lt) (λ (ge : 10 ≤ q). x.chosen.single.old (through q ge h)) (cases_lt q 10)

  -- the sector's is the lowest
  module _ (z : get_or places.body q 0 ≡ 0) where
    first : count_free blocks ≡ count_from blocks (laid.sector + 1) + 1
    first = lowest-next blocks 0 laid.sector (x.chosen.sector.new z)

    one : one_sector ≡ 1
    one = ap one_if (eq-eqb (get_or places.body q 0) 0 z)

    most : past (if_new (get_or places.body q 0) laid.sector) ≤ laid.sector + 1
    most = ⊎_elim
        (λ (e : get_or places.body q 0 ≡ laid.sector). let p = past-if (get_or places.body q 0) laid.sector (sym e) in omega arith)
        (λ (ne : get_or places.body q 0 ≢ laid.sector). let p = past-of (get_or places.body q 0) laid.sector ne in omega arith)
        (cases_eq (get_or places.body q 0) laid.sector)

    sector-alone : laid.longer.blocks.single ≡ places.single → past_new laid.new ≤ laid.sector + 1
    sector-alone e = let p = past-is in let a = most in let b = past-if places.single laid.longer.blocks.single e in omega arith

    with-map : places.single ≡ 0 → 10 ≤ q → (count_from blocks (laid.sector + 1) ≡ count_from blocks (laid.longer.blocks.single + 1) + 1) × (past_new laid.new ≤ laid.longer.blocks.single + 1)
    with-map s ge =
        let low = x.chosen.single.new s ge in let above : laid.sector + 1 ≤ laid.longer.blocks.single = low.0 in
        let p = past-is in let a = most in let b = past-of places.single laid.longer.blocks.single (λ e. omega arith) in
        (lowest-next blocks (laid.sector + 1) laid.longer.blocks.single low, omega arith)

  from-less : (a b : ℕ) → a ≤ b → count_from blocks b ≤ count_from blocks a
  from-less a b le = let split : a + (b - a) ≡ b = omega arith in
      subst (λ n. n ≤ count_from blocks a) (ap count_free (drop-drop (b - a) a blocks) ∙ ap (count_from blocks) split) (fewer-dropped (b - a) (drop a blocks))

  pub left-needed : count_free blocks ≤ count_from blocks (past_new laid.new) + needed_blocks places q
  left-needed = ⊎_elim
      (λ (z : get_or places.body q 0 ≡ 0).
      let f = first z in let o = one z in
      ⊎_elim
      (λ (s : places.single ≡ 0). ⊎_elim
      (λ (lt : q < 10). let m = from-less (past_new laid.new) (laid.sector + 1) (sector-alone z (x.chosen.single.direct lt)) in omega arith)
      (λ (ge : 10 ≤ q). let w = with-map z s ge in let n = w.0 in let m = from-less (past_new laid.new) (laid.longer.blocks.single + 1) w.1 in
      let more : one_map ≡ 1 = (λ t. one_if (le-leb 10 q ge t && eq-eqb places.single 0 s t)) in omega arith)
      (cases_lt q 10))
      (λ (ns : places.single ≢ 0). let m = from-less (past_new laid.new) (laid.sector + 1) (sector-alone z (x.chosen.single.old ns)) in omega arith)
      (cases_eq places.single 0))
      (λ (nz : get_or places.body q 0 ≢ 0). let n = none-new nz in let m = from-less (past_new laid.new) 0 (omega arith) in omega arith)
      (cases_eq (get_or places.body q 0) 0)

module _ (image : Image) (d : ℕ) (inode : Inode) (blocks inodes : List Bool) (m : MayGrow image d inode blocks inodes) (places : Places) (sectors : ℕ) (long : sectors ≡ length image)
    (at : ArePlaces image (min sectors 1048576) inode places) where
  -- ---- the places are those of the image

  cond_none : (t : Bool) → ◌≡◌ {A = ℕ} (cond t 0 0) 0
  cond_none true = refl
  cond_none false = refl

  within-same : (p : Place) → place_within (min sectors 1048576) ((frame image).address d p) ≡ (frame image).address d p
  unfolding frame
  within-same p = ⊎_elim
      (λ (z : (frame image).address d p ≡ 0). ap (place_within (min sectors 1048576)) z ∙ cond_none (leb 2 0 && ltb 0 (min sectors 1048576)) ∙ sym z)
      (λ (nz : (frame image).address d p ≢ 0).
      let r = m.strong.weak.data_block d p nz in
      let low = r.0 in let high = r.1 in
      let three = m.strong.weak.sizes.low in let inside = m.strong.weak.sizes.within in let huge = m.strong.weak.sizes.not_huge in
      ap (λ t. cond t ((frame image).address d p) 0) (and_both (leb 2 ((frame image).address d p)) _ (le-leb 2 _ (omega arith)) (lt-ltb ((frame image).address d p) (min sectors 1048576) (omega arith))))
      (cases_eq ((frame image).address d p) 0)

  stored : (p : Place) → address_of image (head_of inode) p ≡ (frame image).address d p
  unfolding frame
  stored p = ap (λ (n : Inode). address_of image (head_of n) p) m.is

  map_is : map_place image (min sectors 1048576) inode ≡ (frame image).address d Single
  map_is = ap (place_within (min sectors 1048576)) (stored Single) ∙ within-same Single

  at_single : places.single ≡ (frame image).address d Single
  at_single = at.single ∙ map_is

  at_body : (k : ℕ) → k < 138 → get_or places.body k 0 ≡ (frame image).address d (Body k)
  at_body k lt = at.body k lt ∙ by_map (leb 10 k && (map_place image (min sectors 1048576) inode == 0)) refl
    where
      by_map : (t : Bool) → (leb 10 k && (map_place image (min sectors 1048576) inode == 0)) ≡ t → cond t 0 (place_within (min sectors 1048576) (address_of image (head_of inode) (Body k))) ≡ (frame image).address d (Body k)
      by_map true e = sym ((frame-IsFrame image).through d k (leb-true 10 k (and_left _ _ e)) (sym map_is ∙ eqb-true (map_place image (min sectors 1048576) inode) 0 (and_right (leb 10 k) _ e)))
      by_map false e = ap (place_within (min sectors 1048576)) (stored (Body k)) ∙ within-same (Body k)

  -- ---- the size

  size_is : ((frame image).head d).size ≡ inode.size
  unfolding frame
  size_is = ap (λ (n : Inode). n.size) (sym m.is)

  good : IsGood ((frame image).head d)
  good = m.strong.weak.good d ((frame-IsFrame image).directories d m.dir)

  even : inode.size % 16 ≡ 0
  even = subst (λ n. n % 16 ≡ 0) size_is (good.directory (eqb-true ((frame image).head d).type 4 m.dir)).1

  held : (k : ℕ) → k < sectors_of inode.size → (frame image).address d (Body k) ≢ 0
  held k lt = m.strong.weak.needed d k m.dir (subst (λ n. k < sectors_of n) (sym size_is) lt)

  below : inode.size / 16 / 32 < 138
  below = let room = m.room in omega arith

  -- a new sector begins where the last one is full
  full : get_or places.body (inode.size / 16 / 32) 0 ≡ 0 → inode.size % 512 ≡ 0
  full z = ⊎_elim
      (λ (e : inode.size % 512 ≡ 0). e)
      (λ (ne : inode.size % 512 ≢ 0). absurd (held (inode.size / 16 / 32) (omega arith) (sym (at_body (inode.size / 16 / 32) below) ∙ z)))
      (cases_eq (inode.size % 512) 0)

  -- and the first one that is reached through a block of addresses is the eleventh
  eleventh : places.single ≡ 0 → 10 ≤ inode.size / 16 / 32 → (get_or places.body (inode.size / 16 / 32) 0 ≡ 0) × (inode.size / 512 ≡ 10)
  eleventh z ge =
      let none : (k : ℕ) → 10 ≤ k → (frame image).address d (Body k) ≡ 0 = λ k le. (frame-IsFrame image).through d k le (sym at_single ∙ z) in
      let empty : get_or places.body (inode.size / 16 / 32) 0 ≡ 0 = at_body (inode.size / 16 / 32) below ∙ none (inode.size / 16 / 32) ge in
      let whole = full empty in (
        empty,
        ⊎_elim
            (λ (e : inode.size / 512 ≡ 10). e)
            (λ (ne : inode.size / 512 ≢ 10). absurd (held 10 (omega arith) (none 10 (omega arith))))
            (cases_eq (inode.size / 512) 10),
      )

  pub enough-needed : needed_blocks places (inode.size / 16 / 32) ≤ added_blocks inode.size
  unfolding added_blocks
  enough-needed = ⊎_elim
      (λ (z : get_or places.body (inode.size / 16 / 32) 0 ≡ 0).
      let whole = full z in
      let one : added_blocks inode.size ≡ cond (inode.size / 512 == 10) 2 1 = ap (λ t. cond t (cond (inode.size / 512 == 10) 2 1) 0) (eq-eqb (inode.size % 512) 0 whole) in
      by_single one (leb 10 (inode.size / 16 / 32) && (places.single == 0)) refl)
      (λ (h : get_or places.body (inode.size / 16 / 32) 0 ≢ 0).
      let first : one_if (get_or places.body (inode.size / 16 / 32) 0 == 0) ≡ 0 = ap one_if (ne_eqb (get_or places.body (inode.size / 16 / 32) 0) 0 h) in
      let second : one_if (leb 10 (inode.size / 16 / 32) && (places.single == 0)) ≡ 0 = none_single h (leb 10 (inode.size / 16 / 32) && (places.single == 0)) refl in omega arith)
      (cases_eq (get_or places.body (inode.size / 16 / 32) 0) 0)
    where
      first_most : (t : Bool) → one_if t ≤ 1
      first_most true = omega arith
      first_most false = omega arith

      by_single : added_blocks inode.size ≡ cond (inode.size / 512 == 10) 2 1 → (t : Bool) → (leb 10 (inode.size / 16 / 32) && (places.single == 0)) ≡ t → needed_blocks places (inode.size / 16 / 32) ≤ added_blocks inode.size
      by_single one true e =
          let r = eleventh (eqb-true places.single 0 (and_right (leb 10 (inode.size / 16 / 32)) _ e)) (leb-true 10 (inode.size / 16 / 32) (and_left _ _ e)) in
          let two : added_blocks inode.size ≡ 2 = one ∙ ap (λ t. cond t 2 1) (eq-eqb (inode.size / 512) 10 r.1) in
          let most = first_most (get_or places.body (inode.size / 16 / 32) 0 == 0) in
          let more : one_if (leb 10 (inode.size / 16 / 32) && (places.single == 0)) ≡ 1 = ap one_if e in omega arith
      by_single one false e =
          let least : 1 ≤ cond (inode.size / 512 == 10) 2 1 = one_or_two (inode.size / 512 == 10) in
          let most = first_most (get_or places.body (inode.size / 16 / 32) 0 == 0) in
          let more : one_if (leb 10 (inode.size / 16 / 32) && (places.single == 0)) ≡ 0 = ap one_if e in omega arith
        where
          one_or_two : (t : Bool) → 1 ≤ cond t 2 1
          one_or_two true = omega arith
          one_or_two false = omega arith

      none_single : get_or places.body (inode.size / 16 / 32) 0 ≢ 0 → (t : Bool) → (leb 10 (inode.size / 16 / 32) && (places.single == 0)) ≡ t → one_if (leb 10 (inode.size / 16 / 32) && (places.single == 0)) ≡ 0
      none_single h true e = absurd (h (eleventh (eqb-true places.single 0 (and_right (leb 10 (inode.size / 16 / 32)) _ e)) (leb-true 10 (inode.size / 16 / 32) (and_left _ _ e))).0)
      none_single h false e = ap one_if e

  -- ---- what is laid out

  module _ (laid : Laid) (x : IsLaid blocks places (inode.size / 16 / 32) laid) where
    body_q : get_or places.body (inode.size / 16 / 32) 0 ≡ (frame image).address d (Body (inode.size / 16 / 32))
    body_q = at_body (inode.size / 16 / 32) below

    sector_old : (frame image).address d (Body (inode.size / 16 / 32)) ≢ 0 → laid.sector ≡ (frame image).address d (Body (inode.size / 16 / 32))
    sector_old h = x.chosen.sector.old (λ z. h (sym body_q ∙ z)) ∙ body_q

    sector_new : (frame image).address d (Body (inode.size / 16 / 32)) ≡ 0 → IsFreeBlock (frame image) laid.sector
    sector_new z = m.sets.free laid.sector (x.chosen.sector.new (body_q ∙ z)).1

    single_old : (frame image).address d Single ≢ 0 → laid.longer.blocks.single ≡ (frame image).address d Single
    single_old h = x.chosen.single.old (λ z. h (sym at_single ∙ z)) ∙ at_single

    single_direct : inode.size / 16 / 32 < 10 → laid.longer.blocks.single ≡ (frame image).address d Single
    single_direct lt = x.chosen.single.direct lt ∙ at_single

    single_new : (frame image).address d Single ≡ 0 → 10 ≤ inode.size / 16 / 32 → IsFreeBlock (frame image) laid.longer.blocks.single × (laid.sector < laid.longer.blocks.single)
    single_new z ge = let r = x.chosen.single.new (at_single ∙ z) ge in let low : laid.sector + 1 ≤ laid.longer.blocks.single = r.0 in (m.sets.free laid.longer.blocks.single r.1, omega arith)

    body-same : (l : ℕ) → l < 138 → body_with places.body (inode.size / 16 / 32) laid.sector l ≡ laid_at (frame image) d (inode.size / 16 / 32) laid.sector laid.longer.blocks.single (Body l)
    body-same l lt = ap (cond (eqb l (inode.size / 16 / 32)) laid.sector) (at_body l lt)

    map : MapPuts (frame image) d (inode.size / 16 / 32) (laid_at (frame image) d (inode.size / 16 / 32) laid.sector laid.longer.blocks.single) (map_puts laid.longer.map)
    map = laid-map (frame image) d (inode.size / 16 / 32) laid.sector laid.longer.blocks.single m.strong (frame-IsFrame image) below sector_old sector_new single_old single_direct single_new laid.longer.map
        (subst (λ c. PutsMap (inode.size / 16 / 32) (c == 0) laid.longer.blocks.single (λ l. laid_at (frame image) d (inode.size / 16 / 32) laid.sector laid.longer.blocks.single (Body l)) laid.longer.map) body_q
        (map-same (inode.size / 16 / 32) (get_or places.body (inode.size / 16 / 32) 0 == 0) laid.longer.blocks.single (body_with places.body (inode.size / 16 / 32) laid.sector)
        (λ l. laid_at (frame image) d (inode.size / 16 / 32) laid.sector laid.longer.blocks.single (Body l)) body-same laid.longer.map x.longer.map))

    new : AreNewBlocks (frame image) d (laid_at (frame image) d (inode.size / 16 / 32) laid.sector laid.longer.blocks.single) (new_list laid.new)
    new = subst (AreNewBlocks (frame image) d (laid_at (frame image) d (inode.size / 16 / 32) laid.sector laid.longer.blocks.single)) (sym (λ z. one_of ((x.new_sector ∙ ap (λ c. if_new c laid.sector) body_q) z) ++ one_of ((x.new_map ∙ ap (λ c. if_new c laid.longer.blocks.single) at_single) z)))
        (laid-new (frame image) d (inode.size / 16 / 32) laid.sector laid.longer.blocks.single m.strong (frame-IsFrame image) below sector_old sector_new single_old single_direct single_new)

    pub lays-longer : LaysLonger image d (inode.size / 16) laid
    lays-longer = (
      laid_at (frame image) d (inode.size / 16 / 32) laid.sector laid.longer.blocks.single,
      λ slot. record {
        lays = laid-target (frame image) d (inode.size / 16 / 32) laid.sector laid.longer.blocks.single m.strong (frame-IsFrame image) below sector_old sector_new single_old single_direct single_new;
        sector = sym (ap (λ t. cond t laid.sector ((frame image).address d (Body (inode.size / 16 / 32)))) (eq-eqb (inode.size / 16 / 32) (inode.size / 16 / 32) refl));
        is_fresh = x.longer.fresh ∙ ap (λ c. c == 0) body_q;
        map = map;
        own = λ l lt. x.longer.own l lt ∙ body-same l (omega arith);
        through = refl;
        fresh = new;
      },
    )

  -- it is laid out, since enough blocks are free
  pub lays-so : (o : Option Laid) → IfSome o (IsLaid blocks places (inode.size / 16 / 32)) → IfNone o (AreSpare sectors blocks → count_free blocks < needed_blocks places (inode.size / 16 / 32)) → IsSomeAnd o (LaysLonger image d (inode.size / 16))
  lays-so None x few = absurd (let lt = few (spare-of image sectors blocks inodes m.strong (sym long) m.sets) in let needed = enough-needed in let enough = m.enough in omega arith)
  lays-so (Some laid) x few = lays-longer laid x

  -- and past the new blocks no more are missing than it takes besides
  pub lays-left : AreThrough places → (o : Option Laid) → IfSome o (IsLaid blocks places (inode.size / 16 / 32)) → IfSome o (λ laid. count_free blocks ≤ count_from blocks (past_new laid.new) + added_blocks inode.size)
  lays-left through None x = tt
  lays-left through (Some laid) x = let n = left-needed blocks places (inode.size / 16 / 32) through laid x in let needed = enough-needed in omega arith
