-- A batch of writes to one file is one rewrite of its node.
use Rattle.std.proofs.Common.{◌≡◌, ◌≢◌, ◌⊎◌, ℕ, zero, suc, ◌+◌, ◌-◌, ◌*◌, ◌/◌, ◌<◌, ◌≤◌, max, Bool, true, false, cond, not, ◌||◌, ◌==◌, List, [], ◌∷◌, ◌++◌, map, length, drop, replicate, unwrap_or, refl, sym, ap, subst, ◌∙◌, arith, inl, inr, ⊎_elim, eqb, eq-eqb, ltb, Option, Some, None, is_some, length-take, length-append, length-drop, drop-drop}
use Rattle.std.proofs.lemmas.Bool.{cases_Bool, ne_eqb, eqb-true}
use Rattle.std.proofs.lemmas.List.{length-replicate, drop-replicate}
use Rattle.std.proofs.lemmas.List.Folds.{list_any-append}
use Rattle.std.specs.List.{range_with_len, AllByRecursion}
use Rattle.std.specs.FinMap.{get, insert}
use Rattle.files_model.specs.declared.attributes.FileId.{FileId}
use Rattle.files_model.specs.declared.credential.Cred.{Cred}
use Rattle.files_model.specs.declared.reply.Stat.{Stat}
use Rattle.files_model.specs.declared.reply.Stat.TheVariants.{Rofs, Isdir, Nxio, Acces, Fbig}
use Rattle.files_model.specs.declared.attributes.Kind.{Kind}
use Rattle.files_model.specs.declared.attributes.Kind.TheVariants.{Regular, Directory, Link}
use Rattle.files_model.specs.declared.call.Call.TheVariants.{Write}
use Rattle.files_model.specs.declared.reply.Reply.TheVariants as reply
use Rattle.files_model.specs.Files.{Node, Files, Sectors, sectors_of, clipped, IsBody, live, if_current}
use Rattle.files_model.specs.Step.{touched, written, with_sectors, spliced, sector_of, write_refusal, with_node, step, write_row, at_live, unless, attr_of}
use Rattle.files_model.specs.Torn.{after_calls, IsWriteTo}
use Rattle.files_model.specs.declared.call.WriteItem.{WriteItem}
use Rattle.files_model.specs.declared.permission.Want.TheVariants as want
use Rattle.files_model.specs.Among.{is_among}
use Rattle.files_model.specs.Space.{size_limit}
use Rattle.files_model.specs.Permission.{allows, is_directory, is_link}
use Rattle.files_model.specs.Batch.{calls_of, node_after, accepted_of, touched_by, replies_of, answers, IsRewrite}
use Rattle.files_model.proofs.Maps.{get-insert_same, get-insert_other, inserted}
use Rattle.files_model.proofs.Clips.{clipped_fixed, clipped_tail, clipped-spliced}

or_no : (a b : Bool) → (a || b) ≡ false → (a ≡ false) × (b ≡ false)
or_no true b e = absurd (cc)
or_no false b e = (refl, e)

or_yes : (a b : Bool) → (a || b) ≡ true → (a ≡ true) ⊎ (b ≡ true)
or_yes true b e = inl refl
or_yes false b e = inr e

-- ---- a map with several sectors set

module _ (c : ℕ → List ℕ) where
  pub with_sectors-out : (ks : List ℕ) (s : Sectors) (k : ℕ) → is_among k ks ≡ false → get (with_sectors (map (λ q. (q, c q)) ks) s) k ≡ get s k
  with_sectors-out [] s k out = refl
  with_sectors-out (x ∷ xs) s k out = let o = or_no (eqb x k) (is_among k xs) out in
      with_sectors-out xs (insert s x (c x)) k o.1 ∙ get-insert_other s x (c x) k (λ e. let yes : eqb x k ≡ true = eq-eqb x k (sym e) in let differ : eqb x k ≡ false = o.0 in cc)

  pub with_sectors-in : (ks : List ℕ) (s : Sectors) (k : ℕ) → is_among k ks ≡ true → get (with_sectors (map (λ q. (q, c q)) ks) s) k ≡ Some (c k)
  with_sectors-in [] s k e = absurd (cc)
  with_sectors-in (x ∷ xs) s k e = ⊎_elim
      (λ (h : is_among k xs ≡ true). with_sectors-in xs (insert s x (c x)) k h)
      (λ (h : is_among k xs ≡ false). let here : eqb x k ≡ true = ⊎_elim (λ (q : eqb x k ≡ true). q) (λ (q : is_among k xs ≡ true). absurd (cc)) (or_yes (eqb x k) (is_among k xs) e) in
      with_sectors-out xs (insert s x (c x)) k h ∙ subst (λ z. get (insert s z (c z)) k ≡ Some (c k)) (sym (eqb-true x k here)) (get-insert_same s k (c k)))
      (cases_Bool (is_among k xs))

-- ---- one write

pub clipped_more : (size more k : ℕ) (b : List ℕ) → length b ≡ 512 → size ≤ more → clipped size k b ≡ b → clipped more k b ≡ b
clipped_more size more k b long le e =
    let r : ℕ = size - 512 * k in
    let t : ℕ = more - 512 * k in
    let tail : drop r b ≡ replicate (512 - r) 0 = clipped_tail size k b long e in
    let split : r + (t - r) ≡ t = omega arith in
    let count : 512 - r - (t - r) ≡ 512 - t = omega arith in
    clipped_fixed more k b (ap (λ z. drop z b) (sym split) ∙ sym (drop-drop (t - r) r b) ∙ ap (drop (t - r)) tail ∙ drop-replicate (t - r) (512 - r) 0 ∙ ap (λ z. replicate z 0) count)

pub length-spliced : (offset : ℕ) (bytes : List ℕ) (k : ℕ) (old : List ℕ) → length old ≡ 512 → length (spliced offset bytes k old) ≡ 512
unfolding spliced
length-spliced offset bytes k old long = simp (length-append, length-take, length-drop) (omega arith)

clipped_zeros : (size k : ℕ) → clipped size k (replicate 512 0) ≡ replicate 512 0
clipped_zeros size k = clipped_fixed size k (replicate 512 0) (drop-replicate (size - 512 * k) 512 0)

pub sector_long : (size : ℕ) (s : Sectors) → IsBody size s → (k : ℕ) → (length (sector_of s k) ≡ 512) × (clipped size k (sector_of s k) ≡ sector_of s k)
sector_long size s body k = elim (get s k) as (λ o. get s k ≡ o → (length (unwrap_or o (replicate 512 0)) ≡ 512) × (clipped size k (unwrap_or o (replicate 512 0)) ≡ unwrap_or o (replicate 512 0))) [
  | None ↦ λ e. (length-replicate {A = ℕ} 512 0, clipped_zeros size k)
  | Some b ↦ λ e. (body.long k b e, body.zeros k b e)
] refl

among-range_within : (k a n : ℕ) → is_among k (range_with_len a n) ≡ true → (a ≤ k) × (k < a + n)
among-range_within k a zero e = absurd (cc)
among-range_within k a (suc n) e = ⊎_elim
    (λ (h : eqb a k ≡ true). let s : a ≡ k = eqb-true a k h in (omega arith, omega arith))
    (λ (h : is_among k (range_with_len (a + 1) n) ≡ true). let r = among-range_within k (a + 1) n h in let low : a + 1 ≤ k = r.0 in let high : k < (a + 1) + n = r.1 in (omega arith, omega arith))
    (or_yes (eqb a k) (is_among k (range_with_len (a + 1) n)) e)

touched-below : (offset n k : ℕ) → is_among k (touched offset n) ≡ true → (n ≢ 0) × (k < sectors_of (offset + n))
unfolding touched
touched-below offset n k = elim (eqb n 0) as (λ b. eqb n 0 ≡ b → is_among k (cond b [] (range_with_len (offset / 512) (sectors_of (offset + n) - offset / 512))) ≡ true → (n ≢ 0) × (k < sectors_of (offset + n))) [
  | true ↦ λ t e. absurd (cc)
  | false ↦ λ t e. let r = among-range_within k (offset / 512) (sectors_of (offset + n) - offset / 512) e in let high : k < offset / 512 + (sectors_of (offset + n) - offset / 512) = r.1 in
      let some : n ≢ 0 = λ z. let yes : eqb n 0 ≡ true = eq-eqb n 0 z in cc in (some, omega arith)
] refl

pub written-IsRewrite : (n : Node) (offset : ℕ) (bytes : List ℕ) (now : ℕ) → IsBody n.size n.sectors → n.size ≤ size_limit → offset + length bytes ≤ size_limit → IsRewrite n (written n offset bytes now) (touched offset (length bytes))
unfolding written
written-IsRewrite n offset bytes now body low within = record {
  same = refl;
  grows = by_length.0;
  within = by_length.1;
  body = record {
    below = λ k b e. ⊎_elim
        (λ (in' : is_among k (touched offset (length bytes)) ≡ true). below_new k in')
        (λ (out : is_among k (touched offset (length bytes)) ≡ false). let lt : k < sectors_of n.size = body.below k b (sym (with_sectors-out content (touched offset (length bytes)) n.sectors k out) ∙ e) in let g : n.size ≤ size = by_length.0 in omega arith)
        (cases_Bool (is_among k (touched offset (length bytes))));
    long = λ k b e. ⊎_elim
        (λ (in' : is_among k (touched offset (length bytes)) ≡ true). let is : Some b ≡ Some (content k) = sym e ∙ with_sectors-in content (touched offset (length bytes)) n.sectors k in' in let same : b ≡ content k = cc in ap length same ∙ length-spliced offset bytes k (sector_of n.sectors k) (sector_long n.size n.sectors body k).0)
        (λ (out : is_among k (touched offset (length bytes)) ≡ false). body.long k b (sym (with_sectors-out content (touched offset (length bytes)) n.sectors k out) ∙ e))
        (cases_Bool (is_among k (touched offset (length bytes))));
    zeros = λ k b e. ⊎_elim
        (λ (in' : is_among k (touched offset (length bytes)) ≡ true). let is : Some b ≡ Some (content k) = sym e ∙ with_sectors-in content (touched offset (length bytes)) n.sectors k in' in let same : b ≡ content k = cc in
        subst (λ z. clipped size k z ≡ z) (sym same)
        (let s = sector_long n.size n.sectors body k in clipped-spliced size k offset bytes (sector_of n.sectors k) s.0 (clipped_more n.size size k (sector_of n.sectors k) s.0 by_length.0 s.1) (end_within k in')))
        (λ (out : is_among k (touched offset (length bytes)) ≡ false). let old : get n.sectors k ≡ Some b = sym (with_sectors-out content (touched offset (length bytes)) n.sectors k out) ∙ e in
        clipped_more n.size size k b (body.long k b old) by_length.0 (body.zeros k b old))
        (cases_Bool (is_among k (touched offset (length bytes))));
  };
  kept = λ k out. with_sectors-out content (touched offset (length bytes)) n.sectors k out;
  held = λ k in'. ap is_some (with_sectors-in content (touched offset (length bytes)) n.sectors k in');
}
  where
    content : ℕ → List ℕ
    content k = spliced offset bytes k (sector_of n.sectors k)

    size : ℕ
    size = cond (eqb (length bytes) 0) n.size (max n.size (offset + length bytes))

    by_length : (n.size ≤ size) × (size ≤ size_limit)
    by_length = elim (eqb (length bytes) 0) as (λ b. (n.size ≤ cond b n.size (max n.size (offset + length bytes))) × (cond b n.size (max n.size (offset + length bytes)) ≤ size_limit)) [
      | true ↦ (omega arith, omega arith)
      | false ↦ (omega arith, omega arith)
    ]

    end_within : (k : ℕ) → is_among k (touched offset (length bytes)) ≡ true → offset + length bytes ≤ size
    end_within k in' = let t = touched-below offset (length bytes) k in' in
        let is : size ≡ max n.size (offset + length bytes) = ap (λ b. cond b n.size (max n.size (offset + length bytes))) (ne_eqb (length bytes) 0 t.0) in
        subst (λ z. offset + length bytes ≤ z) (sym is) (omega arith)

    below_new : (k : ℕ) → is_among k (touched offset (length bytes)) ≡ true → k < sectors_of size
    below_new k in' = let t = touched-below offset (length bytes) k in' in let e : offset + length bytes ≤ size = end_within k in' in let lt : k < sectors_of (offset + length bytes) = t.1 in omega arith

-- ---- several

pub IsRewrite-refl : (n : Node) → IsBody n.size n.sectors → n.size ≤ size_limit → IsRewrite n n []
IsRewrite-refl n body low = record { same = refl; grows = omega arith; within = low; body = body; kept = λ k e. refl; held = λ k e. absurd (cc) }

pub IsRewrite-trans : (a b c : Node) (ks ls : List ℕ) → IsRewrite a b ks → IsRewrite b c ls → IsRewrite a c (ks ++ ls)
IsRewrite-trans a b c ks ls x y = record {
  same = y.same ∙ ap (λ (m : Node). record m { mode = c.mode; uid = c.uid; gid = c.gid; size = c.size; atime = c.atime; mtime = c.mtime; ctime = c.ctime; sectors = c.sectors }) x.same;
  grows = let g = x.grows in let h = y.grows in omega arith;
  within = y.within;
  body = y.body;
  kept = λ k e. let o = or_no (is_among k ks) (is_among k ls) (sym (list_any-append (λ q. q == k) ks ls) ∙ e) in y.kept k o.1 ∙ x.kept k o.0;
  held = λ k e. ⊎_elim
      (λ (h : is_among k ls ≡ true). y.held k h)
      (λ (h : is_among k ls ≡ false). ap is_some (y.kept k h) ∙ x.held k (⊎_elim (λ (q : is_among k ks ≡ true). q) (λ (q : is_among k ls ≡ true). absurd (cc)) (or_yes (is_among k ks) (is_among k ls) (sym (list_any-append (λ q. q == k) ks ls) ∙ e))))
      (cases_Bool (is_among k ls));
}

unrefused : (b : Bool) (status : Stat) (rest : Option Stat) → cond b (Some status) rest ≡ None → (b ≡ false) × (rest ≡ None)
unrefused true status rest e = absurd (cc)
unrefused false status rest e = (refl, e)

-- a write that isn't refused ends within the size_limit
pub not_too_big : (files : Files) (file : FileId) (n : Node) (cred : Cred) (offset : ℕ) (bytes : List ℕ) (now : ℕ) → write_refusal files file n cred offset bytes now ≡ None → offset + length bytes ≤ size_limit
not_too_big files file n cred offset bytes now e =
    let a = unrefused files.read_only Rofs _ e in
    let b = unrefused (is_directory n.kind) Isdir _ a.1 in
    let c = unrefused (is_link n.kind) Nxio _ b.1 in
    let d = unrefused (not (allows cred (attr_of file.ino n) want.Write)) Acces _ c.1 in
    let f = unrefused (ltb size_limit (offset + length bytes)) Fbig _ d.1 in
    within size_limit (offset + length bytes) f.0
  where
    within : (a b : ℕ) → ltb a b ≡ false → b ≤ a
    within a b e = grind arith

-- and it is to a regular file
pub write-regular : (files : Files) (file : FileId) (n : Node) (cred : Cred) (offset : ℕ) (bytes : List ℕ) (now : ℕ) → write_refusal files file n cred offset bytes now ≡ None → n.kind ≡ Regular
write-regular files file n cred offset bytes now e =
    let a = unrefused files.read_only Rofs _ e in
    let b = unrefused (is_directory n.kind) Isdir _ a.1 in
    let c = unrefused (is_link n.kind) Nxio _ b.1 in
    by_kind n.kind b.0 c.0
  where
    by_kind : (k : Kind) → is_directory k ≡ false → is_link k ≡ false → k ≡ Regular
    by_kind Regular e f = refl
    by_kind Directory e f = absurd (cc)
    by_kind Link e f = absurd (cc)

pub node_after-IsRewrite : (files : Files) (file : FileId) (n : Node) (ws : List WriteItem) (now : ℕ) → IsBody n.size n.sectors → n.size ≤ size_limit → IsRewrite n (node_after files file n ws now) (touched_by (accepted_of files file n ws now))
node_after-IsRewrite files file n [] now body low = IsRewrite-refl n body low
node_after-IsRewrite files file n (w ∷ ws) now body low = elim (write_refusal files file n w.cred w.offset w.bytes now) as (λ r. write_refusal files file n w.cred w.offset w.bytes now ≡ r → IsRewrite n
    (elim r [ None ↦ node_after (with_node files file.ino (written n w.offset w.bytes now)) file (written n w.offset w.bytes now) ws now | Some status ↦ node_after files file n ws now ])
    (touched_by (elim r [ None ↦ w ∷ accepted_of (with_node files file.ino (written n w.offset w.bytes now)) file (written n w.offset w.bytes now) ws now | Some status ↦ accepted_of files file n ws now ]))) [
      | None ↦ λ e. let one = written-IsRewrite n w.offset w.bytes now body low (not_too_big files file n w.cred w.offset w.bytes now e) in
          IsRewrite-trans n (written n w.offset w.bytes now) (node_after (with_node files file.ino (written n w.offset w.bytes now)) file (written n w.offset w.bytes now) ws now)
          (touched w.offset (length w.bytes)) (touched_by (accepted_of (with_node files file.ino (written n w.offset w.bytes now)) file (written n w.offset w.bytes now) ws now))
          one (node_after-IsRewrite (with_node files file.ino (written n w.offset w.bytes now)) file (written n w.offset w.bytes now) ws now one.body one.within)
      | Some status ↦ λ e. node_after-IsRewrite files file n ws now body low
    ] refl

-- ---- the files

pub with_node_twice : (files : Files) (i : ℕ) (m n : Node) → with_node (with_node files i m) i n ≡ with_node files i n
with_node_twice files i m n = ap (λ nodes. record files { nodes = nodes }) (inserted files.nodes (insert (insert files.nodes i m) i n) i n (get-insert_same _ i n)
    (λ q ne. get-insert_other (insert files.nodes i m) i n q ne ∙ get-insert_other files.nodes i m q ne))

pub with_node_same : (files : Files) (i : ℕ) (n : Node) → get files.nodes i ≡ Some n → with_node files i n ≡ files
with_node_same files i n at = ap (λ nodes. record files { nodes = nodes }) (sym (inserted files.nodes files.nodes i n at (λ q ne. refl)))

current_node : (o : Option ℕ) (g : ℕ) (m : Option Node) (n : Node) → if_current o g m ≡ Some n → (m ≡ Some n) × ((p : Option Node) → if_current o g p ≡ p)
current_node None g m n e = absurd (cc)
current_node (Some h) g m n e = elim (eqb h g) as (λ b. cond b m None ≡ Some n → (m ≡ Some n) × ((p : Option Node) → cond b p None ≡ p)) [ true ↦ λ is. (is, λ p. refl) | false ↦ λ is. absurd (cc) ] e

pub live-node : (files : Files) (file : FileId) (n : Node) → live files file ≡ Some n → get files.nodes file.ino ≡ Some n
unfolding live
live-node files file n e = (current_node (get files.generations file.ino) file.generation (get files.nodes file.ino) n e).0

pub live-with_node : (files : Files) (file : FileId) (n m : Node) → live files file ≡ Some n → live (with_node files file.ino m) file ≡ Some m
unfolding live
live-with_node files file n m e = (current_node (get files.generations file.ino) file.generation (get files.nodes file.ino) n e).1 (get (insert files.nodes file.ino m) file.ino) ∙ get-insert_same files.nodes file.ino m

pub step-write : (files : Files) (file : FileId) (n : Node) (offset : ℕ) (bytes : List ℕ) (cred : Cred) (now : ℕ) → live files file ≡ Some n
    → step files (Write file offset bytes) cred now ≡ unless files (write_refusal files file n cred offset bytes now) (reply.Attr (attr_of file.ino (written n offset bytes now)), with_node files file.ino (written n offset bytes now))
unfolding write_row
step-write files file n offset bytes cred now is z = at_live files (is z) (λ m. unless files (write_refusal files file m cred offset bytes now) (reply.Attr (attr_of file.ino (written m offset bytes now)), with_node files file.ino (written m offset bytes now)))

-- the files after a batch, and its answers
pub after_batch : (files : Files) (file : FileId) (n : Node) (ws : List WriteItem) (now : ℕ) → live files file ≡ Some n
    → (after_calls files (calls_of file ws) now ≡ with_node files file.ino (node_after files file n ws now)) × (replies_of files (calls_of file ws) now ≡ answers files file n ws now)
after_batch files file n [] now is = (sym (with_node_same files file.ino n (live-node files file n is)), refl)
after_batch files file n (w ∷ ws) now is =
    let m : Node = written n w.offset w.bytes now in
    let one = step-write files file n w.offset w.bytes w.cred now is in
    elim (write_refusal files file n w.cred w.offset w.bytes now) as (λ r. write_refusal files file n w.cred w.offset w.bytes now ≡ r →
    (after_calls files (calls_of file (w ∷ ws)) now ≡ with_node files file.ino (elim r [ None ↦ node_after (with_node files file.ino m) file m ws now | Some status ↦ node_after files file n ws now ]))
    × (replies_of files (calls_of file (w ∷ ws)) now ≡ (elim r [ None ↦ reply.Attr (attr_of file.ino m) ∷ answers (with_node files file.ino m) file m ws now | Some status ↦ reply.Refused status ∷ answers files file n ws now ]))) [
      | None ↦ λ e. let s : step files (Write file w.offset w.bytes) w.cred now ≡ (reply.Attr (attr_of file.ino m), with_node files file.ino m) = one ∙ ap (λ r. unless files r (reply.Attr (attr_of file.ino m), with_node files file.ino m)) e in
          let rest = after_batch (with_node files file.ino m) file m ws now (live-with_node files file n m is) in (
            ap (λ p. after_calls p.1 (calls_of file ws) now) s ∙ rest.0 ∙ with_node_twice files file.ino m (node_after (with_node files file.ino m) file m ws now),
            ap (λ p. p.0 ∷ replies_of p.1 (calls_of file ws) now) s ∙ ap (λ l. reply.Attr (attr_of file.ino m) ∷ l) rest.1,
          )
      | Some status ↦ λ e. let s : step files (Write file w.offset w.bytes) w.cred now ≡ (reply.Refused status, files) = one ∙ ap (λ r. unless files r (reply.Attr (attr_of file.ino m), with_node files file.ino m)) e in
          let rest = after_batch files file n ws now is in (
            ap (λ p. after_calls p.1 (calls_of file ws) now) s ∙ rest.0,
            ap (λ p. p.0 ∷ replies_of p.1 (calls_of file ws) now) s ∙ ap (λ l. reply.Refused status ∷ l) rest.1,
          )
    ] refl

pub batch-writes : (file : FileId) (ws : List WriteItem) → AllByRecursion (IsWriteTo file) (calls_of file ws)
batch-writes file [] = tt
batch-writes file (w ∷ ws) = (refl, batch-writes file ws)
