-- The block of a new directory, past the new blocks of its parent: there is one, and the parent is to have no block there.
use Rattle.std.proofs.Common.{◌≡◌, ◌≢◌, ◌⊎◌, ℕ, zero, suc, ◌+◌, ◌/◌, ◌%◌, ◌<◌, ◌≤◌, Bool, true, false, cond, not, ◌||◌, ◌==◌, List, [], ◌∷◌, ◌++◌, refl, sym, ap, subst, ◌∙◌, arith, inl, inr, ⊎_elim, eq-eqb, Option, Some, None, IfSome}
use Rattle.std.proofs.lemmas.Bool.{cases_eq, cases_lt, eqb-true}
use Rattle.std.specs.List.{range_with_len, list_any}
use Rattle.files_model.specs.Among.{is_among}
use Rattle.files_model.specs.Files.{sectors_of}
use Rattle.index_sets.specs.Free.{is_free, count_free, IsLowestFrom}
use Rattle.name_plans.specs.Taken.{AreNewBlocks}
use Rattle.plan_file.specs.Free.{count_from}
use Rattle.plan_file.proofs.Placing.{lowest-there, lowest-next}
use Rattle.stable.specs.Store.{Image}
use Rattle.v7_layout.specs.declared.inode.Inode.{Inode}
use Rattle.v7_map.specs.Frame.{Place, Body, Single, Double, frame}
use Rattle.v7_map.proofs.AnyFrame.{frame-IsFrame}
use Rattle.v7_sets.specs.Sets.{IsFreeBlock}
use Rattle.v7_strokes.specs.Targets.{IsTarget}
use Rattle.plan_name.specs.Growth.{added_blocks}
use Rattle.plan_name.specs.LayingOut.{AreLowest, MayGrow, LaysLonger, one_of, new_list}
use Rattle.plan_name.specs.declared.laying_out.Laid.{Laid}
use Rattle.plan_mkdir.specs.Spare.{past_new}

clash : {b : Bool} → b ≡ true → b ≡ false → ⊥
clash {b = b} x y = cc

none_range : (p : ℕ → Bool) (a n : ℕ) → ((b : ℕ) → a ≤ b → p b ≡ false) → list_any p (range_with_len a n) ≡ false
none_range p a zero h = refl
none_range p a (suc n) h = (λ z. h a (omega arith) z || list_any p (range_with_len (a + 1) n)) ∙ none_range p (a + 1) n (λ b le. h b (omega arith))

or_first : (b : Bool) → (b || false) ≡ true → b ≡ true
or_first true e = refl
or_first false e = absurd (cc)

or_both : (a b : Bool) → (a || (b || false)) ≡ true → (a ≡ true) ⊎ (b ≡ true)
or_both true b e = inl refl
or_both false b e = inr (or_first b e)

-- one of one, one of two
of-one : (b s : ℕ) → is_among b (s ∷ []) ≡ true → b ≡ s
of-one b s e = sym (eqb-true s b (or_first (s == b) e))

of-two : (b s m : ℕ) → is_among b (s ∷ m ∷ []) ≡ true → (b ≡ s) ⊎ (b ≡ m)
of-two b s m e = ⊎_elim (λ (h : (s == b) ≡ true). inl (sym (eqb-true s b h))) (λ (h : (m == b) ≡ true). inr (sym (eqb-true m b h))) (or_both (s == b) (m == b) e)

is-first : (s : ℕ) (rest : List ℕ) → is_among s (s ∷ rest) ≡ true
is-first s rest = ap (λ b. b || is_among s rest) (eq-eqb s s refl)

is-second : (s m : ℕ) → is_among m (s ∷ m ∷ []) ≡ true
is-second s m = ap (λ b. (s == m) || (b || false)) (eq-eqb m m refl) ∙ or_true (s == m)
  where
    or_true : (b : Bool) → (b || true) ≡ true
    or_true true = refl
    or_true false = refl

one_added : (size : ℕ) → size % 512 ≡ 0 → 1 ≤ added_blocks size
unfolding added_blocks
one_added size e = subst (λ b. 1 ≤ cond b (cond (size / 512 == 10) 2 1) 0) (sym (eq-eqb (size % 512) 0 e)) (least (size / 512 == 10))
  where
    least : (b : Bool) → 1 ≤ cond b 2 1
    least true = omega arith
    least false = omega arith

two_added : (size : ℕ) → size % 512 ≡ 0 → size / 512 ≡ 10 → added_blocks size ≡ 2
unfolding added_blocks
two_added size e ten = (λ z. cond (eq-eqb (size % 512) 0 e z) (cond (eq-eqb (size / 512) 10 ten z) 2 1) 0)

module _ (image : Image) (d : ℕ) (inode : Inode) (blocks inodes : List Bool) (g : MayGrow image d inode blocks inodes) (laid : Laid) (lays : LaysLonger image d (inode.size / 16) laid) (low : AreLowest blocks laid) where
  abbrev target : Place → ℕ
  target = lays.0

  lay : IsTarget (frame image) d (inode.size / 16 / 32) target
  lay = (lays.1 (record { ino = 0; name = [] })).lays

  sector_is : laid.sector ≡ target (Body (inode.size / 16 / 32))
  sector_is = (lays.1 (record { ino = 0; name = [] })).sector

  fresh : AreNewBlocks (frame image) d target (new_list laid.new)
  fresh = (lays.1 (record { ino = 0; name = [] })).fresh

  size_is : ((frame image).head d).size ≡ inode.size
  unfolding frame
  size_is = ap (λ (n : Inode). n.size) (sym g.is)

  even : inode.size % 16 ≡ 0
  even = subst (λ n. n % 16 ≡ 0) size_is ((g.strong.weak.good d ((frame-IsFrame image).directories d g.dir)).directory (eqb-true ((frame image).head d).type 4 g.dir)).1

  held : (k : ℕ) → k < sectors_of inode.size → (frame image).address d (Body k) ≢ 0
  held k lt = g.strong.weak.needed d k g.dir (subst (λ n. k < sectors_of n) (sym size_is) lt)

  -- a block that was free is the new sector's, or the new one of addresses
  new-is : (b : ℕ) → IsFreeBlock (frame image) b → is_among b (new_list laid.new) ≡ true → (b ≡ target (Body (inode.size / 16 / 32))) ⊎ (b ≡ target Single)
  new-is b free among = ⊎_elim
      (λ (e : b ≡ target (Body (inode.size / 16 / 32))). inl e)
      (λ (ns : b ≢ target (Body (inode.size / 16 / 32))). ⊎_elim
      (λ (e : b ≡ target Single). inr e)
      (λ (nm : b ≢ target Single). absurd (clash among (fresh.only b (elsewhere ns nm))))
      (cases_eq b (target Single)))
      (cases_eq b (target (Body (inode.size / 16 / 32))))
    where
      some_b : b ≢ 0
      some_b z = let l = free.low in let least = g.strong.weak.sizes.low in omega arith

      elsewhere : b ≢ target (Body (inode.size / 16 / 32)) → b ≢ target Single → (p : Place) → target p ≢ b
      elsewhere ns nm (Body l) e = ⊎_elim
          (λ (z : (frame image).address d (Body l) ≡ 0). let same = lay.added l z (λ t. some_b (sym e ∙ t)) in ns (sym e ∙ ap (λ k. target (Body k)) same))
          (λ (nz : (frame image).address d (Body l) ≢ 0). free.nowhere d (Body l) (sym (lay.kept (Body l) nz) ∙ e))
          (cases_eq ((frame image).address d (Body l)) 0)
      elsewhere ns nm Single e = nm (sym e)
      elsewhere ns nm Double e = some_b (sym e ∙ lay.double)

  -- a new block of addresses is for the new sector
  for-sector : (frame image).address d Single ≡ 0 → target Single ≢ 0 → (10 ≤ inode.size / 16 / 32) × ((frame image).address d (Body (inode.size / 16 / 32)) ≡ 0)
  for-sector z nz = ⊎_elim
      (λ (lt : inode.size / 16 / 32 < 10). absurd (clash (lay.map_needed nz) (none_range (λ l. not (target (Body l) == 0)) 10 128 (λ l le. ap not (⊎_elim
      (λ (t : target (Body l) ≡ 0). eq-eqb (target (Body l)) 0 t)
      (λ (some : target (Body l) ≢ 0). let e = lay.added l ((frame-IsFrame image).through d l le z) some in absurd (omega arith))
      (cases_eq (target (Body l)) 0))))))
      (λ (ge : 10 ≤ inode.size / 16 / 32). (ge, (frame-IsFrame image).through d (inode.size / 16 / 32) ge z))
      (cases_lt (inode.size / 16 / 32) 10)

  -- where a block is new, the sector is
  sector-new : (b : ℕ) → IsFreeBlock (frame image) b → is_among b (new_list laid.new) ≡ true → (frame image).address d (Body (inode.size / 16 / 32)) ≡ 0
  sector-new b free among = ⊎_elim
      (λ (e : b ≡ target (Body (inode.size / 16 / 32))). ⊎_elim
      (λ (z : (frame image).address d (Body (inode.size / 16 / 32)) ≡ 0). z)
      (λ (nz : (frame image).address d (Body (inode.size / 16 / 32)) ≢ 0). absurd (free.nowhere d (Body (inode.size / 16 / 32)) (sym (lay.kept (Body (inode.size / 16 / 32)) nz) ∙ sym e)))
      (cases_eq ((frame image).address d (Body (inode.size / 16 / 32))) 0))
      (λ (e : b ≡ target Single). ⊎_elim
      (λ (z : (frame image).address d Single ≡ 0). (for-sector z (λ t. let l = free.low in let least = g.strong.weak.sizes.low in let zero_b : b ≡ 0 = e ∙ t in omega arith)).1)
      (λ (nz : (frame image).address d Single ≢ 0). absurd (free.nowhere d Single (sym (lay.kept Single nz) ∙ sym e)))
      (cases_eq ((frame image).address d Single) 0))
      (new-is b free among)

  -- and the last sector is full
  full : (frame image).address d (Body (inode.size / 16 / 32)) ≡ 0 → inode.size % 512 ≡ 0
  full z = ⊎_elim
      (λ (e : inode.size % 512 ≡ 0). e)
      (λ (ne : inode.size % 512 ≢ 0). absurd (held (inode.size / 16 / 32) (omega arith) z))
      (cases_eq (inode.size % 512) 0)

  free_of : (a : ℕ) → is_free blocks a ≡ true → IsFreeBlock (frame image) a
  free_of a h = g.sets.free a h

  sector_among : (frame image).address d (Body (inode.size / 16 / 32)) ≡ 0 → is_among laid.sector (new_list laid.new) ≡ true
  sector_among z = subst (λ b. is_among b (new_list laid.new) ≡ true) (sym sector_is) (fresh.each (Body (inode.size / 16 / 32)) z lay.held)

  by_list : (sector map : Option ℕ) → new_list laid.new ≡ one_of sector ++ one_of map → IfSome sector (λ a. IsLowestFrom blocks 0 (Some a)) → IfSome map (λ a. IsLowestFrom blocks (laid.sector + 1) (Some a))
      → added_blocks inode.size + 1 ≤ count_free blocks → IsLowestFrom blocks (past_new sector map) None → ⊥
  by_list None None e ls lm enough none = lowest-there blocks 0 (omega arith) none
  by_list (Some s) None e ls lm enough none =
      let z = sector-new s (free_of s ls.1) (ap (is_among s) e ∙ is-first s []) in
      let one = one_added inode.size (full z) in
      let n : count_free blocks ≡ count_from blocks (s + 1) + 1 = lowest-next blocks 0 s ls in lowest-there blocks (s + 1) (omega arith) none
  by_list None (Some m) e ls lm enough none =
      let z = sector-new m (free_of m lm.1) (ap (is_among m) e ∙ is-first m []) in
      let same = of-one laid.sector m (sym (ap (is_among laid.sector) e) ∙ sector_among z) in
      let past = lm.0 in omega (arith, same, past)
  by_list (Some s) (Some m) e ls lm enough none =
      let z = sector-new s (free_of s ls.1) (ap (is_among s) e ∙ is-first s (m ∷ [])) in
      let past : laid.sector + 1 ≤ m = lm.0 in
      let first : laid.sector ≡ s = ⊎_elim (λ (h : laid.sector ≡ s). h) (λ (h : laid.sector ≡ m). absurd (omega (arith, h, past))) (of-two laid.sector s m (sym (ap (is_among laid.sector) e) ∙ sector_among z)) in
      let free_m = free_of m lm.1 in
      let single : m ≡ target Single = ⊎_elim (λ (h : m ≡ target (Body (inode.size / 16 / 32))). let h' : m ≡ laid.sector = h ∙ sym sector_is in absurd (omega (arith, h', past))) (λ (h : m ≡ target Single). h) (new-is m free_m (ap (is_among m) e ∙ is-second s m)) in
      let none_yet : (frame image).address d Single ≡ 0 = ⊎_elim (λ (h : (frame image).address d Single ≡ 0). h) (λ (nz : (frame image).address d Single ≢ 0). absurd (free_m.nowhere d Single (sym (lay.kept Single nz) ∙ sym single))) (cases_eq ((frame image).address d Single) 0) in
      let r = for-sector none_yet (λ t. let l = free_m.low in let least = g.strong.weak.sizes.low in let zero_m : m ≡ 0 = single ∙ t in omega arith) in
      let ten : inode.size / 512 ≡ 10 = eleventh none_yet r.0 (full z) in
      let two = two_added inode.size (full z) ten in
      let n : count_free blocks ≡ count_from blocks (s + 1) + 1 = lowest-next blocks 0 s ls in
      let k : count_from blocks (laid.sector + 1) ≡ count_from blocks (m + 1) + 1 = lowest-next blocks (laid.sector + 1) m lm in
      let k' : count_from blocks (s + 1) ≡ count_from blocks (m + 1) + 1 = subst (λ b. count_from blocks (b + 1) ≡ count_from blocks (m + 1) + 1) first k in
      lowest-there blocks (m + 1) (omega arith) none
    where
      eleventh : (frame image).address d Single ≡ 0 → 10 ≤ inode.size / 16 / 32 → inode.size % 512 ≡ 0 → inode.size / 512 ≡ 10
      eleventh z ge whole = ⊎_elim
          (λ (h : inode.size / 512 ≡ 10). h)
          (λ (ne : inode.size / 512 ≢ 10). absurd (held 10 (omega arith) ((frame-IsFrame image).through d 10 (omega arith) z)))
          (cases_eq (inode.size / 512) 10)

  -- a block is left for the new directory
  pub block-left : added_blocks inode.size + 1 ≤ count_free blocks → IsLowestFrom blocks (past_new laid.new.sector laid.new.map) None → ⊥
  block-left enough none = by_list laid.new.sector laid.new.map refl low.sector low.map enough none

  past_all : (sector map : Option ℕ) → IfSome sector (λ s. IsLowestFrom blocks 0 (Some s)) → IfSome map (λ m. IsLowestFrom blocks (laid.sector + 1) (Some m)) → (a : ℕ) → past_new sector map ≤ a → is_among a (one_of sector ++ one_of map) ≡ true → ⊥
  past_all None None ls lm a le e = absurd (cc)
  past_all (Some s) None ls lm a le e = let h = of-one a s e in omega (arith, h, le)
  past_all None (Some m) ls lm a le e = let h = of-one a m e in omega (arith, h, le)
  past_all (Some s) (Some m) ls lm a le e = ⊎_elim
      (λ (h : a ≡ s). let least : s ≤ m = below s m ls lm.1 in omega (arith, h, le, least))
      (λ (h : a ≡ m). omega (arith, h, le))
      (of-two a s m e)
    where
      below : (s m : ℕ) → IsLowestFrom blocks 0 (Some s) → is_free blocks m ≡ true → s ≤ m
      below s m ls free = ⊎_elim (λ (lt : m < s). absurd (clash free (ls.2 m (omega arith) lt))) (λ (ge : s ≤ m). ge) (cases_lt m s)

  -- and the parent has none there
  pub block-apart : (a : ℕ) → IsLowestFrom blocks (past_new laid.new.sector laid.new.map) (Some a) → (p : Place) → lays.0 p ≢ a
  block-apart a is p e =
      let free = free_of a is.1 in ⊎_elim
      (λ (z : (frame image).address d p ≡ 0). past_all laid.new.sector laid.new.map low.sector low.map a is.0
      (sym (ap (λ b. is_among b (new_list laid.new)) e) ∙ fresh.each p z (λ t. let l = free.low in let least = g.strong.weak.sizes.low in let zero_a : a ≡ 0 = sym e ∙ t in omega arith)))
      (λ (nz : (frame image).address d p ≢ 0). free.nowhere d p (sym (lay.kept p nz) ∙ e))
      (cases_eq ((frame image).address d p) 0)

  -- the new blocks can be counted on from
  pub new-few : IfSome laid.new.sector (λ s. s < 4294967295) × IfSome laid.new.map (λ m. m < 4294967295)
  new-few = (small laid.new.sector 0 low.sector, small laid.new.map (laid.sector + 1) low.map)
    where
      small : (o : Option ℕ) (from : ℕ) → IfSome o (λ s. IsLowestFrom blocks from (Some s)) → IfSome o (λ s. s < 4294967295)
      small None from h = tt
      small (Some s) from h = let f = free_of s h.1 in let high = f.high in let huge = g.strong.weak.sizes.not_huge in omega arith
