-- The blocks that a write adds are those by which the usage grows, so a batch is answered as the step does.
use Rattle.std.proofs.Common.{◌≡◌, ◌≢◌, ℕ, zero, suc, ◌+◌, ◌-◌, ◌/◌, ◌<◌, ◌≤◌, max, Bool, true, false, cond, not, ◌&&◌, ◌||◌, ◌==◌, List, [], ◌∷◌, length, refl, sym, ap, subst, ◌∙◌, arith, ⊎_elim, eq-eqb, ltb, leb, Option, Some, None, is_some}
use Rattle.std.proofs.lemmas.Bool.{cases_eq, cases_lt, cases_Bool, ne_eqb, lt-ltb, leb-true, le-leb}
use Rattle.std.proofs.lemmas.List.FromFn.{get_or-map-range_with_len, length-map-range_with_len}
use Rattle.std.proofs.lemmas.List.Sums.{sum_by-cons}
use Rattle.std.specs.List.{range_with_len, count_by, sum_by, list_any}
use Rattle.std.specs.FinMap.{get, insert}
use Rattle.files_model.specs.declared.attributes.Attr.{Attr}
use Rattle.files_model.specs.declared.attributes.FileId.{FileId}
use Rattle.files_model.specs.declared.attributes.Kind.{Kind}
use Rattle.files_model.specs.declared.attributes.Kind.TheVariants.{Regular, Directory, Link}
use Rattle.files_model.specs.declared.call.WriteItem.{WriteItem}
use Rattle.files_model.specs.declared.permission.Want.TheVariants as want
use Rattle.files_model.specs.declared.reply.Reply.TheVariants as reply
use Rattle.files_model.specs.declared.reply.Stat.{Stat}
use Rattle.files_model.specs.declared.reply.Stat.TheVariants as stat
use Rattle.files_model.specs.Among.{is_among}
use Rattle.files_model.specs.Batch.{IsRewrite, node_after, answers, one_if}
use Rattle.files_model.specs.Files.{Node, Files, sectors_of, IsBody, live}
use Rattle.files_model.specs.Permission.{allows, is_directory, is_link}
use Rattle.files_model.specs.Space.{is_held, node_usage, usage_at, usage, free, size_limit}
use Rattle.files_model.specs.Step.{touched, written, write_refusal, with_node, attr_of, first_of}
use Rattle.files_model.proofs.Batches.{written-IsRewrite, live-with_node, live-node}
use Rattle.files_model.proofs.Maps.{get-insert_same, get-insert_other}
use Rattle.v7_space.proofs.Counting.{count_same, count_none, count_parts, count_others}
use Rattle.v7_map.proofs.Frames.{and_left, and_right}
use Rattle.v7_space.proofs.Space.{among-within, sum_same}
use Rattle.v7_map.proofs.Walks.{among, any_found, any_at, among-range, and_both, or_cases, or_left, or_right}
use Rattle.plan_file.specs.declared.draft.Draft.{Draft}
use Rattle.plan_file.specs.Draft.{holds, needs_map, blocks_added, marked, attr_refusal, or_full, draft_refusal, attr_written, reply_of, after_refusal, draft_written, draft_replies, drafts_after, IsDraftOf}
use Rattle.plan_file.proofs.Batch.{held_regular}

same_truth : (a b : Bool) → (a ≡ true → b ≡ true) → (b ≡ true → a ≡ true) → a ≡ b
same_truth true b to from = sym (to refl)
same_truth false true to from = from refl
same_truth false false to from = refl

pub among_not : (k a n : ℕ) → ((a ≤ k) × (k < a + n) → ⊥) → is_among k (range_with_len a n) ≡ false
among_not k a n out = ⊎_elim (λ (h : is_among k (range_with_len a n) ≡ true). absurd (out (among-within k a n h))) (λ (h : is_among k (range_with_len a n) ≡ false). h) (cases_Bool (is_among k (range_with_len a n)))

pub among-in : (k f m : ℕ) → f ≤ k → k < f + m → is_among k (range_with_len f m) ≡ true
unfolding among
among-in k f m l u = among-range k f m l u

-- a test that fails from s on
any_longer : (p : ℕ → Bool) (s b : ℕ) → s ≤ b → ((k : ℕ) → s ≤ k → p k ≡ false) → list_any p (range_with_len 0 s) ≡ list_any p (range_with_len 0 b)
unfolding among
any_longer p s b le past = same_truth _ _
    (λ e. let r = any_found p (range_with_len 0 s) e in let in' = among-within r.0 0 s r.1 in let high : r.0 < 0 + s = in'.1 in any_at p (range_with_len 0 b) r.0 (among-range r.0 0 b (omega arith) (omega arith)) r.2)
    (λ e. let r = any_found p (range_with_len 0 b) e in
    let below : r.0 < s = ⊎_elim (λ (lt : r.0 < s). lt) (λ (ge : s ≤ r.0). let no' : p r.0 ≡ false = past r.0 ge in let yes : p r.0 ≡ true = r.2 in absurd (cc)) (cases_lt r.0 s) in
    any_at p (range_with_len 0 s) r.0 (among-range r.0 0 s (omega arith) (omega arith)) r.2)

-- ---- one node

abbrev sector_held : Node → ℕ → Bool
sector_held m k = is_some (get m.sectors k)

module _ (b : ℕ) (is_b : b ≡ 138) where
  module _ (m : Node) (regular : m.kind ≡ Regular) (body : IsBody m.size m.sectors) (low : m.size ≤ size_limit) where
    held_past : (k : ℕ) → sectors_of m.size ≤ k → sector_held m k ≡ false
    held_past k ge = elim (get m.sectors k) as (λ o. get m.sectors k ≡ o → is_some o ≡ false) [ None ↦ λ e. refl | Some x ↦ λ e. let lt : k < sectors_of m.size = body.below k x e in absurd (omega arith) ] refl

    count_held : count_by (is_held m) (range_with_len 0 (sectors_of m.size)) ≡ count_by (sector_held m) (range_with_len 0 b)
    count_held =
        let s : ℕ = sectors_of m.size in
        let fits : s ≤ b = omega arith in
        let same = count_same (is_held m) (sector_held m) 0 s (λ k l u. held_regular m k regular) in
        let parts = count_parts (sector_held m) 0 s (b - s) b (omega arith) in
        let past = count_none (sector_held m) (0 + s) (b - s) (λ k l u. held_past k (omega arith)) in
        omega arith

    maps_held : list_any (λ k. leb 10 k && is_held m k) (range_with_len 0 (sectors_of m.size)) ≡ list_any (λ k. leb 10 k && sector_held m k) (range_with_len 0 b)
    maps_held =
        (λ z. list_any (λ k. leb 10 k && held_regular m k regular z) (range_with_len 0 (sectors_of m.size)))
        ∙ any_longer (λ k. leb 10 k && sector_held m k) (sectors_of m.size) b (omega arith) (λ k ge. ap (λ t. leb 10 k && t) (held_past k ge) ∙ none (leb 10 k))
      where
        none : (t : Bool) → (t && false) ≡ false
        none true = refl
        none false = refl

    usage_held : node_usage m ≡ count_by (sector_held m) (range_with_len 0 b) + one_if (list_any (λ k. leb 10 k && sector_held m k) (range_with_len 0 b))
    usage_held = λ z. count_held z + one_if (maps_held z)

  module _ (i : ℕ) (n : Node) (d : Draft) (offset : ℕ) (bytes : List ℕ) (now : ℕ) (draft : IsDraftOf i n d)
      (regular : n.kind ≡ Regular) (body : IsBody n.size n.sectors) (low : n.size ≤ size_limit) (within : offset + length bytes ≤ size_limit) where
    abbrev new : Node
    new = written n offset bytes now

    abbrev ks : List ℕ
    ks = touched offset (length bytes)

    re : IsRewrite n new ks
    re = written-IsRewrite n offset bytes now body low within

    new_regular : new.kind ≡ Regular
    unfolding written
    new_regular = regular

    held_new : (k : ℕ) → sector_held new k ≡ (sector_held n k || is_among k ks)
    held_new k = ⊎_elim
        (λ (in' : is_among k ks ≡ true). re.held k in' ∙ sym (or_right (sector_held n k) _ in'))
        (λ (out : is_among k ks ≡ false). ap is_some (re.kept k out) ∙ sym (ap (λ t. sector_held n k || t) out ∙ same (sector_held n k)))
        (cases_Bool (is_among k ks))
      where
        same : (t : Bool) → (t || false) ≡ t
        same true = refl
        same false = refl

    first : ℕ
    first = offset / 512

    past : ℕ
    past = sectors_of (offset + length bytes)

    touched_is : (t : Bool) → (length bytes == 0) ≡ t → ks ≡ cond t [] (range_with_len first (past - first))
    unfolding touched first past
    touched_is t e = ap (λ c. cond c [] (range_with_len (offset / 512) (sectors_of (offset + length bytes) - offset / 512))) e

    -- the sectors that aren't held
    count_new : count_by (sector_held new) (range_with_len 0 b) ≡ count_by (sector_held n) (range_with_len 0 b) + count_by (λ k. not (holds d.held k)) ks
    unfolding first past
    count_new = ⊎_elim
        (λ (z : length bytes ≡ 0).
        let none : ks ≡ [] = touched_is true (eq-eqb (length bytes) 0 z) in
        let a = count_same (sector_held new) (sector_held n) 0 b (λ k l u. held_new k ∙ ap (λ q. sector_held n k || is_among k q) none ∙ same (sector_held n k)) in
        let c : count_by (λ k. not (holds d.held k)) ks ≡ 0 = ap (count_by (λ k. not (holds d.held k))) none in omega arith)
        (λ (nz : length bytes ≢ 0).
        let f : ℕ = offset / 512 in
        let m : ℕ = sectors_of (offset + length bytes) - offset / 512 in
        let some : ks ≡ range_with_len f m = touched_is false (ne_eqb (length bytes) 0 nz) in
        let among_is = λ (k : ℕ). ap (is_among k) some in
        let room : f + m ≤ b = omega arith in
        let p1 = count_parts (sector_held new) 0 f (b - f) b (omega arith) in
        let p2 = count_parts (sector_held new) (0 + f) m (b - f - m) (b - f) (omega arith) in
        let q1 = count_parts (sector_held n) 0 f (b - f) b (omega arith) in
        let q2 = count_parts (sector_held n) (0 + f) m (b - f - m) (b - f) (omega arith) in
        let low' = count_same (sector_held new) (sector_held n) 0 f (λ k l u. outside k f m some (λ h. let a : f ≤ k = h.0 in omega arith)) in
        let high' = count_same (sector_held new) (sector_held n) ((0 + f) + m) (b - f - m) (λ k l u. outside k f m some (λ h. let a : k < f + m = h.1 in omega arith)) in
        let all = count_others (sector_held new) (λ k. false) (0 + f) m (λ k l u. held_new k ∙ or_right (sector_held n k) _ (among_is k ∙ among-in k f m (omega arith) (omega arith))) in
        let nothing = count_none (λ k. false) (0 + f) m (λ k l u. refl) in
        let others = count_others (λ k. not (holds d.held k)) (sector_held n) (0 + f) m (λ k l u. ap not (draft.held regular k (omega arith))) in
        let start : 0 + f ≡ f = omega arith in
        let here : count_by (λ k. not (holds d.held k)) ks ≡ count_by (λ k. not (holds d.held k)) (range_with_len (0 + f) m) = ap (count_by (λ k. not (holds d.held k))) some ∙ (λ z. count_by (λ k. not (holds d.held k)) (range_with_len (sym start z) m)) in
        omega arith)
        (cases_eq (length bytes) 0)
      where
        same : (t : Bool) → (t || false) ≡ t
        same true = refl
        same false = refl

        outside : (k f m : ℕ) → ks ≡ range_with_len f m → ((f ≤ k) × (k < f + m) → ⊥) → sector_held new k ≡ sector_held n k
        outside k f m some out = held_new k ∙ ap (λ q. sector_held n k || is_among k q) some ∙ ap (λ t. sector_held n k || t) (among_not k f m out) ∙ same (sector_held n k)

    -- the block of addresses
    map_new : list_any (λ k. leb 10 k && sector_held new k) (range_with_len 0 b) ≡ (list_any (λ k. leb 10 k && sector_held n k) (range_with_len 0 b) || needs_map offset (length bytes))
    unfolding among first past
    map_new = same_truth _ _
        (λ e. let r = any_found (λ k. leb 10 k && sector_held new k) (range_with_len 0 b) e in
        let k : ℕ = r.0 in
        let ge : 10 ≤ k = leb-true 10 k (and_left (leb 10 k) _ r.2) in
        let there : (sector_held n k || is_among k ks) ≡ true = sym (held_new k) ∙ and_right (leb 10 k) (sector_held new k) r.2 in
        ⊎_elim
        (λ (h : sector_held n k ≡ true). or_left _ (needs_map offset (length bytes)) (any_at (λ k. leb 10 k && sector_held n k) (range_with_len 0 b) k r.1 (and_both (leb 10 k) _ (le-leb 10 k ge) h)))
        (λ (h : is_among k ks ≡ true). or_right (list_any (λ k. leb 10 k && sector_held n k) (range_with_len 0 b)) _ (needs k ge h))
        (or_cases (sector_held n k) (is_among k ks) there))
        (λ e. ⊎_elim
        (λ (h : list_any (λ k. leb 10 k && sector_held n k) (range_with_len 0 b) ≡ true). let r = any_found (λ k. leb 10 k && sector_held n k) (range_with_len 0 b) h in
        any_at (λ k. leb 10 k && sector_held new k) (range_with_len 0 b) r.0 r.1 (and_both (leb 10 r.0) _ (and_left (leb 10 r.0) _ r.2) (held_new r.0 ∙ or_left _ (is_among r.0 ks) (and_right (leb 10 r.0) (sector_held n r.0) r.2))))
        (λ (h : needs_map offset (length bytes) ≡ true).
        let some : length bytes ≢ 0 = λ z. clash (length bytes == 0) (eq-eqb (length bytes) 0 z) (and_left (not (length bytes == 0)) _ h) in
        let high : 10 < sectors_of (offset + length bytes) = below (sectors_of (offset + length bytes)) (and_right (not (length bytes == 0)) _ h) in
        let k : ℕ = sectors_of (offset + length bytes) - 1 in
        let in' : is_among k ks ≡ true = ap (is_among k) (touched_is false (ne_eqb (length bytes) 0 some)) ∙ among-in k (offset / 512) (sectors_of (offset + length bytes) - offset / 512) (omega arith) (omega arith) in
        any_at (λ k. leb 10 k && sector_held new k) (range_with_len 0 b) k (among-range k 0 b (omega arith) (omega arith)) (and_both (leb 10 k) _ (le-leb 10 k (omega arith)) (held_new k ∙ or_right (sector_held n k) _ in')))
        (or_cases (list_any (λ k. leb 10 k && sector_held n k) (range_with_len 0 b)) (needs_map offset (length bytes)) e))
      where
        clash : (t : Bool) → t ≡ true → not t ≡ true → ⊥
        clash true x y = cc
        clash false x y = cc

        below : (x : ℕ) → ltb 10 x ≡ true → 10 < x
        below x h = grind arith

        needs : (k : ℕ) → 10 ≤ k → is_among k ks ≡ true → needs_map offset (length bytes) ≡ true
        needs k ge in' = ⊎_elim
            (λ (z : length bytes ≡ 0). let none : false ≡ true = ap (is_among k) (sym (touched_is true (eq-eqb (length bytes) 0 z))) ∙ in' in absurd (cc))
            (λ (nz : length bytes ≢ 0).
            let r = among-within k (offset / 512) (sectors_of (offset + length bytes) - offset / 512) (ap (is_among k) (sym (touched_is false (ne_eqb (length bytes) 0 nz))) ∙ in') in
            let high : k < offset / 512 + (sectors_of (offset + length bytes) - offset / 512) = r.1 in
            and_both (not (length bytes == 0)) _ (ap not (ne_eqb (length bytes) 0 nz)) (lt-ltb 10 (sectors_of (offset + length bytes)) (omega arith)))
            (cases_eq (length bytes) 0)

    mapped_is : d.mapped ≡ list_any (λ k. leb 10 k && sector_held n k) (range_with_len 0 b)
    mapped_is = draft.mapped regular ∙ maps_held n regular body low

    -- the usage grows by the blocks that the write adds
    usage-written : node_usage new ≡ node_usage n + blocks_added d offset (length bytes)
    unfolding blocks_added
    usage-written =
        let u = usage_held new new_regular re.body re.within in
        let v = usage_held n regular body low in
        let c = count_new in
        let m : one_if (list_any (λ k. leb 10 k && sector_held new k) (range_with_len 0 b)) ≡ one_if (list_any (λ k. leb 10 k && sector_held n k) (range_with_len 0 b) || needs_map offset (length bytes)) = ap one_if map_new in
        let s = more (list_any (λ k. leb 10 k && sector_held n k) (range_with_len 0 b)) (needs_map offset (length bytes)) in
        let q : one_if (needs_map offset (length bytes) && not (list_any (λ k. leb 10 k && sector_held n k) (range_with_len 0 b))) ≡ one_if (needs_map offset (length bytes) && not d.mapped) = ap (λ t. one_if (needs_map offset (length bytes) && not t)) (sym mapped_is) in
        omega arith
      where
        more : (s t : Bool) → one_if (s || t) ≡ one_if s + one_if (t && not s)
        more true true = refl
        more true false = refl
        more false true = refl
        more false false = refl

    -- what is known after the write
    draft-written : IsDraftOf i new (draft_written d offset (length bytes) now)
    unfolding written marked
    draft-written = record {
      attr = ap (λ (a : Attr). record a { size = cond (length bytes == 0) a.size (max a.size (offset + length bytes)); mtime = now; ctime = now }) draft.attr;
      long = length-map-range_with_len (λ k. holds d.held k || is_among k ks) 0 (length d.held) ∙ draft.long;
      held = λ _ k lt. get_or-map-range_with_len (λ k. holds d.held k || is_among k ks) 0 (length d.held) k k false (let l = draft.long in omega arith) (omega arith)
          ∙ ap (λ t. t || is_among k ks) (draft.held regular k lt) ∙ sym (held_new k);
      mapped = λ _. ap (λ t. t || needs_map offset (length bytes)) mapped_is ∙ sym map_new ∙ sym (maps_held new new_regular re.body re.within);
    }

-- ---- all nodes

sum_but_one : (f g : ℕ → ℕ) (i a n : ℕ) → a ≤ i → i < a + n → ((j : ℕ) → j ≢ i → g j ≡ f j) → sum_by g (range_with_len a n) + f i ≡ sum_by f (range_with_len a n) + g i
sum_but_one f g i a zero low high same = absurd (omega arith)
sum_but_one f g i a (suc n) low high same =
    let c = sum_by-cons f a (range_with_len (a + 1) n) in
    let d = sum_by-cons g a (range_with_len (a + 1) n) in
    ⊎_elim
    (λ (e : a ≡ i). let rest = sum_same g f (a + 1) n (λ j l u. same j (λ q. omega arith)) in let x = ap f e in let y = ap g e in omega arith)
    (λ (ne : a ≢ i). let r = sum_but_one f g i (a + 1) n (omega arith) (omega arith) same in let here = same a ne in omega arith)
    (cases_eq a i)

usage-with_node : (files : Files) (i : ℕ) (n m : Node) → get files.nodes i ≡ Some n → 1 ≤ i → i ≤ files.inodes → usage (with_node files i m) + node_usage n ≡ usage files + node_usage m
unfolding usage
usage-with_node files i n m at low high =
    let r = sum_but_one (λ j. usage_at (get files.nodes j)) (λ j. usage_at (get (insert files.nodes i m) j)) i 1 files.inodes low (omega arith) (λ j ne. ap usage_at (get-insert_other files.nodes i m j ne)) in
    let x = ap usage_at at in
    let y = ap usage_at (get-insert_same files.nodes i m) in
    omega arith

-- ---- the refusals

full_last : (read_only : Bool) (kind : Kind) (allowed big full : Bool) → first_of ((read_only, stat.Rofs) ∷ (is_directory kind, stat.Isdir) ∷ (is_link kind, stat.Nxio) ∷ (not allowed, stat.Acces) ∷ (big, stat.Fbig) ∷ (full, stat.Nospc) ∷ [])
    ≡ or_full (first_of ((read_only, stat.Rofs) ∷ (is_directory kind, stat.Isdir) ∷ (is_link kind, stat.Nxio) ∷ (not allowed, stat.Acces) ∷ (big, stat.Fbig) ∷ [])) full
full_last true kind allowed big full = refl
full_last false Directory allowed big full = refl
full_last false Link allowed big full = refl
full_last false Regular false big full = refl
full_last false Regular true true full = refl
full_last false Regular true false true = refl
full_last false Regular true false false = refl

-- what is not refused by the attributes is a write to a regular file that ends within the limit
pub unrefused : (read_only : Bool) (kind : Kind) (allowed : Bool) (end : ℕ) → first_of ((read_only, stat.Rofs) ∷ (is_directory kind, stat.Isdir) ∷ (is_link kind, stat.Nxio) ∷ (not allowed, stat.Acces) ∷ (ltb size_limit end, stat.Fbig) ∷ []) ≡ None
    → (kind ≡ Regular) × (end ≤ size_limit)
unrefused true kind allowed end e = absurd (cc)
unrefused false Directory allowed end e = absurd (cc)
unrefused false Link allowed end e = absurd (cc)
unrefused false Regular false end e = absurd (cc)
unrefused false Regular true end e = (refl, ⊎_elim (λ (lt : size_limit < end). let yes : ltb size_limit end ≡ true = lt-ltb size_limit end lt in absurd (some (ltb size_limit end) yes e)) (λ (ge : end ≤ size_limit). ge) (cases_lt size_limit end))
  where
    some : (t : Bool) → t ≡ true → cond t (Some stat.Fbig) None ≡ None → ⊥
    some true y e = cc
    some false y e = cc

-- a node that can be written
pub record IsWritable (files : Files) (file : FileId) (n : Node) : Type 0 where
  pub is : live files file ≡ Some n
  pub body : IsBody n.size n.sectors
  pub size : n.size ≤ size_limit
  pub low : 1 ≤ file.ino
  pub high : file.ino ≤ files.inodes

module _ (files : Files) (file : FileId) (n : Node) (d : Draft) (w : WriteItem) (now : ℕ) (node : IsWritable files file n) (draft : IsDraftOf file.ino n d) (room : d.free ≡ free files) where
  abbrev by_attr : Option Stat
  by_attr = attr_refusal files.read_only (attr_of file.ino n) w.cred w.offset (length w.bytes)

  abbrev full : Bool
  full = ltb (free files) (node_usage (written n w.offset w.bytes now) - node_usage n)

  same_full : by_attr ≡ None → full ≡ ltb d.free (blocks_added d w.offset (length w.bytes))
  same_full none =
      let u = unrefused files.read_only n.kind (allows w.cred (attr_of file.ino n) want.Write) (w.offset + length w.bytes) none in
      let more = usage-written 138 refl file.ino n d w.offset w.bytes now draft u.0 node.body node.size u.1 in
      let added : node_usage (written n w.offset w.bytes now) - node_usage n ≡ blocks_added d w.offset (length w.bytes) = omega arith in
      λ z. ltb (sym room z) (added z)

  pub refusal-is : write_refusal files file n w.cred w.offset w.bytes now ≡ draft_refusal files.read_only d w
  refusal-is =
      full_last files.read_only n.kind (allows w.cred (attr_of file.ino n) want.Write) (ltb size_limit (w.offset + length w.bytes)) full
      ∙ by_first by_attr refl
      ∙ ap (λ (a : Attr). or_full (attr_refusal files.read_only a w.cred w.offset (length w.bytes)) (ltb d.free (blocks_added d w.offset (length w.bytes)))) draft.attr
    where
      by_first : (o : Option Stat) → by_attr ≡ o → or_full by_attr full ≡ or_full by_attr (ltb d.free (blocks_added d w.offset (length w.bytes)))
      by_first None e = ap (or_full by_attr) (same_full e)
      by_first (Some status) e = (λ z. or_full (e z) full) ∙ (λ z. or_full (sym e z) (ltb d.free (blocks_added d w.offset (length w.bytes))))

  -- an accepted write
  module _ (accepted : write_refusal files file n w.cred w.offset w.bytes now ≡ None) where
    facts : (n.kind ≡ Regular) × (w.offset + length w.bytes ≤ size_limit)
    facts = unrefused files.read_only n.kind (allows w.cred (attr_of file.ino n) want.Write) (w.offset + length w.bytes)
        (first_none by_attr full (sym (full_last files.read_only n.kind (allows w.cred (attr_of file.ino n) want.Write) (ltb size_limit (w.offset + length w.bytes)) full) ∙ accepted))
      where
        first_none : (o : Option Stat) (t : Bool) → or_full o t ≡ None → o ≡ None
        first_none None t e = refl
        first_none (Some status) t e = absurd (cc)

    pub written-writable : IsWritable (with_node files file.ino (written n w.offset w.bytes now)) file (written n w.offset w.bytes now)
    written-writable = let re = written-IsRewrite n w.offset w.bytes now node.body node.size facts.1 in record {
      is = live-with_node files file n (written n w.offset w.bytes now) node.is;
      body = re.body;
      size = re.within;
      low = node.low;
      high = node.high;
    }

    pub written-draft : IsDraftOf file.ino (written n w.offset w.bytes now) (draft_written d w.offset (length w.bytes) now)
    written-draft = draft-written 138 refl file.ino n d w.offset w.bytes now draft facts.0 node.body node.size facts.1

    pub written-free : d.free - blocks_added d w.offset (length w.bytes) ≡ free (with_node files file.ino (written n w.offset w.bytes now))
    written-free =
        let more = usage-written 138 refl file.ino n d w.offset w.bytes now draft facts.0 node.body node.size facts.1 in
        let all = usage-with_node files file.ino n (written n w.offset w.bytes now) (live-node files file n node.is) node.low node.high in
        omega arith

-- ---- a batch

-- the answers are those of the step, and what is known afterwards is of the node afterwards
pub batch-decided : (files : Files) (file : FileId) (n : Node) (d : Draft) (ws : List WriteItem) (now : ℕ) → IsWritable files file n → IsDraftOf file.ino n d → d.free ≡ free files
    → (draft_replies files.read_only d ws now ≡ answers files file n ws now) × IsDraftOf file.ino (node_after files file n ws now) (drafts_after files.read_only d ws now)
batch-decided files file n d [] now node draft room = (refl, draft)
batch-decided files file n d (w ∷ ws) now node draft room =
    let m : Node = written n w.offset w.bytes now in
    let e : Draft = draft_written d w.offset (length w.bytes) now in
    let is = refusal-is files file n d w now node draft room in
    subst (λ (r : Option Stat). ((reply_of r (attr_written d.attr w.offset (length w.bytes) now) ∷ draft_replies files.read_only (after_refusal r e d) ws now) ≡ answers files file n (w ∷ ws) now)
    × IsDraftOf file.ino (node_after files file n (w ∷ ws) now) (drafts_after files.read_only (after_refusal r e d) ws now)) is
    (elim (write_refusal files file n w.cred w.offset w.bytes now) as (λ r. write_refusal files file n w.cred w.offset w.bytes now ≡ r →
    ((reply_of r (attr_written d.attr w.offset (length w.bytes) now) ∷ draft_replies files.read_only (after_refusal r e d) ws now)
    ≡ (elim r [ None ↦ reply.Attr (attr_of file.ino m) ∷ answers (with_node files file.ino m) file m ws now | Some status ↦ reply.Refused status ∷ answers files file n ws now ]))
    × IsDraftOf file.ino (elim r [ None ↦ node_after (with_node files file.ino m) file m ws now | Some status ↦ node_after files file n ws now ]) (drafts_after files.read_only (after_refusal r e d) ws now)) [
      | None ↦ λ o.
          let next : IsDraftOf file.ino m e = written-draft files file n d w now node draft room o in
          let rest = batch-decided (with_node files file.ino m) file m e ws now (written-writable files file n d w now node draft room o) next (written-free files file n d w now node draft room o) in
          ((λ z. reply.Attr (sym next.attr z) ∷ rest.0 z), rest.1)
      | Some status ↦ λ o.
          let rest = batch-decided files file n d ws now node draft room in
          (ap (λ l. reply.Refused status ∷ l) rest.0, rest.1)
    ] refl)
