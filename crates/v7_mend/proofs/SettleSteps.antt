-- One more sector of inodes is settled.
use Rattle.std.proofs.Common.{◌≡◌, ◌≢◌, ◌⊎◌, inl, inr, ℕ, ◌+◌, ◌-◌, ◌*◌, ◌<◌, ◌≤◌, true, not, ◌==◌, ◌&&◌, cond, List, [], length, get_or, sym, ap, subst, ◌∙◌, arith, ⊎_elim, leb, set, get_or-set_other}
use Rattle.std.proofs.lemmas.Bool.{cases_eq, lt-ltb}
use Rattle.std.proofs.lemmas.List.{set-get_or}
use Rattle.std.specs.List.{range_with_len, list_any}
use Rattle.v7_layout.specs.declared.inode.Inode.{Inode}
use Rattle.v7_layout.specs.Numbers.{part, field}
use Rattle.v7_layout.specs.Records.{inode_of}
use Rattle.files_model.specs.Files.{sectors_of}
use Rattle.stable.specs.Store.{Image}
use Rattle.v7_map.specs.Image.{sector_at, is_inode, inode_at, inode_sector, inode_offset, isize_of, inodes_before}
use Rattle.v7_map.specs.Frame.{Frame, Head, Body, Single, Place, head_of, frame}
use Rattle.v7_map.specs.Tree.{tree, links, is_walked}
use Rattle.v7_map.specs.Weak.{IsWeak, IsStrong}
use Rattle.v7_map.proofs.Ranges.{address-inside}
use Rattle.v7_map.proofs.AnyFrame.{frame-IsFrame}
use Rattle.v7_map.proofs.Walks.{and_both, or_right}
use Rattle.v7_mend.specs.Keeps.{KeepsFiles}
use Rattle.v7_mend.specs.Repairs.{AreLinks, AreSettledIn, SettledTo}
use Rattle.v7_mend.specs.Settled.{settled_inode, holds_below, holds_in}
use Rattle.v7_mend.specs.Settles.{inode_here, AreSettledHere, Settles, MaySettle, MapStands, IsSettled}
use Rattle.v7_mend.specs.Trims.{has_map, IsTrimmed}
use Rattle.v7_mend.proofs.KeptFrames.{keeps-weak, keeps-links}
use Rattle.v7_mend.proofs.KeptFiles.{keeps_then}
use Rattle.v7_mend.proofs.Trimming.{has_same, address_single}
use Rattle.v7_mend.proofs.Mapping.{used_of}
use Rattle.v7_mend.proofs.Settling.{settles-keeps, settles-inode_other, settles-address_other, settles-settled, settles-data, settles-inode}
use Rattle.v7_mend.proofs.Decisions.{settled_has}

pub leb_true : (a b : ℕ) → a ≤ b → leb a b ≡ true
leb_true a b le = grind arith

pub inode_read : (image : Image) (i : ℕ) → is_inode image i ≡ true → inode_at image i ≡ inode_here (sector_at image (inode_sector i)) i
unfolding inode_at
inode_read image i in' = ap (λ b. cond b (inode_of (part (sector_at image (inode_sector i)) (inode_offset i) 64)) (inode_of [])) in'

number_range : (image : Image) (i : ℕ) → ((frame image).head i).is_used ≡ true → (1 ≤ i) × (i ≤ inodes_before (isize_of image))
unfolding frame
number_range image i used = (frame-IsFrame image).numbers i used

-- an inode whose place has the same blocks, and whose head is the same, stays settled
still_settled : (f g : Frame) (i count : ℕ) → g.head i ≡ f.head i → ((p : Place) → g.address i p ≡ f.address i p) → IsSettled f i count → IsSettled g i count
still_settled f g i count head places was = record {
  counted = λ u. ap (λ (h : Head). h.nlink) head ∙ was.counted (ap (λ (h : Head). h.is_used) (sym head) ∙ u);
  named = λ u. was.named (ap (λ (h : Head). h.is_used) (sym head) ∙ u);
  none_past = λ k past. places (Body k) ∙ was.none_past k (subst (λ (h : Head). sectors_of h.size ≤ k) head past);
  single_needed = λ nz. (λ z. list_any (λ k. not (places (Body k) z == 0)) (range_with_len 10 128)) ∙ was.single_needed (λ z. nz (places Single ∙ z));
}

module _ (old mid : Image) (counts : List ℕ) (s : ℕ) (weak : IsWeak (frame old)) (so_far : SettledTo old mid counts s) (are : AreLinks old counts) (low : 2 ≤ s) (high : s < isize_of old) where
  weak_mid : IsWeak (frame mid)
  weak_mid = keeps-weak old mid weak so_far.files

  same_isize : isize_of mid ≡ isize_of old
  same_isize = ap (λ b. field b 0 2) so_far.files.first

  high_mid : s < isize_of mid
  high_mid = subst (λ n. s < n) (sym same_isize) high

  is_inode_mid : (i : ℕ) → is_inode mid i ≡ is_inode old i
  is_inode_mid i z = leb 1 i && leb i ((same_isize z - 2) * 8)

  are_mid : (i : ℕ) → is_inode mid i ≡ true → get_or counts i 0 ≡ links (tree (frame mid)) i
  are_mid i in' = are i (sym (is_inode_mid i) ∙ in') ∙ sym (keeps-links old mid weak so_far.files i)

  number_in : (i : ℕ) → 1 ≤ i → inode_sector i ≡ s → is_inode mid i ≡ true
  number_in i one at = let h = high_mid in and_both (leb 1 i) (leb i (inodes_before (isize_of mid))) (leb_true 1 i one) (leb_true i (inodes_before (isize_of mid)) (omega (arith, one, at, h)))

  module _ (new : Image) (puts : Settles mid new s counts) where
    files : KeepsFiles mid new
    files = subst (KeepsFiles mid) (sym puts.is) (settles-keeps mid s counts puts.bytes weak_mid low high_mid puts.settled are_mid)

    other_inode : (i : ℕ) → inode_sector i ≢ s → inode_at new i ≡ inode_at mid i
    other_inode = subst (λ x. (i : ℕ) → inode_sector i ≢ s → inode_at x i ≡ inode_at mid i) (sym puts.is) (settles-inode_other mid s counts puts.bytes weak_mid low high_mid puts.settled are_mid)

    other_address : (i : ℕ) → inode_sector i ≢ s → (p : Place) → (frame new).address i p ≡ (frame mid).address i p
    other_address = subst (λ x. (i : ℕ) → inode_sector i ≢ s → (p : Place) → (frame x).address i p ≡ (frame mid).address i p) (sym puts.is) (settles-address_other mid s counts puts.bytes weak_mid low high_mid puts.settled are_mid)

    here : (i : ℕ) → is_inode mid i ≡ true → inode_sector i ≡ s → IsTrimmed mid i (get_or counts i 0) → IsSettled (frame new) i (get_or counts i 0)
    here = subst (λ x. (i : ℕ) → is_inode mid i ≡ true → inode_sector i ≡ s → IsTrimmed mid i (get_or counts i 0) → IsSettled (frame x) i (get_or counts i 0)) (sym puts.is)
        (settles-settled mid s counts puts.bytes weak_mid low high_mid puts.settled are_mid)

    other_data : (i : ℕ) (p : Place) → (frame mid).address i p ≢ 0 → sector_at new ((frame mid).address i p) ≡ sector_at mid ((frame mid).address i p)
    other_data = subst (λ x. (i : ℕ) (p : Place) → (frame mid).address i p ≢ 0 → sector_at x ((frame mid).address i p) ≡ sector_at mid ((frame mid).address i p)) (sym puts.is)
        (settles-data mid s counts puts.bytes weak_mid low high_mid puts.settled are_mid)

    other_head : (i : ℕ) → inode_sector i ≢ s → (frame new).head i ≡ (frame mid).head i
    unfolding frame
    other_head i ne = ap head_of (other_inode i ne)

    pub settle_files : KeepsFiles old new
    settle_files = keeps_then old mid new weak so_far.files files

    here_inode : (i : ℕ) → inode_sector i ≡ s → is_inode mid i ≡ true → inode_at new i ≡ settled_inode (inode_at mid i) (get_or counts i 0) (holds_in mid (inode_at mid i))
    here_inode = subst (λ x. (i : ℕ) → inode_sector i ≡ s → is_inode mid i ≡ true → inode_at x i ≡ settled_inode (inode_at mid i) (get_or counts i 0) (holds_in mid (inode_at mid i))) (sym puts.is)
        (settles-inode mid s counts puts.bytes weak_mid low high_mid puts.settled are_mid)

    is_inode_new : (i : ℕ) → is_inode new i ≡ is_inode mid i
    is_inode_new i z = leb 1 i && leb i ((field (files.first z) 0 2 - 2) * 8)

    same_has : (i : ℕ) → has_map new (inode_at mid i) (get_or counts i 0) ≡ has_map mid (inode_at mid i) (get_or counts i 0)
    same_has i = has_same mid new (inode_at mid i) (get_or counts i 0) (λ used nz.
        let at : (frame mid).address i Single ≡ (inode_at mid i).single = address_single mid i (used_of mid i used) in
        ap (λ b. holds_below b (sectors_of (inode_at mid i).size)) (subst (λ q. sector_at new q ≡ sector_at mid q) at (other_data i Single (λ z. nz (sym at ∙ z)))))

    still_trimmed : (i : ℕ) → inode_sector i ≢ s → IsTrimmed mid i (get_or counts i 0) → IsTrimmed new i (get_or counts i 0)
    still_trimmed i ne was has k ten past =
        let same : has_map new (inode_at mid i) (get_or counts i 0) ≡ has_map mid (inode_at mid i) (get_or counts i 0) =
        has_same mid new (inode_at mid i) (get_or counts i 0) (λ used nz.
        let at : (frame mid).address i Single ≡ (inode_at mid i).single = address_single mid i (used_of mid i used) in
        ap (λ b. holds_below b (sectors_of (inode_at mid i).size)) (subst (λ q. sector_at new q ≡ sector_at mid q) at (other_data i Single (λ z. nz (sym at ∙ z))))) in
        other_address i ne (Body k) ∙ was (sym same ∙ ap (λ (n : Inode). has_map new n (get_or counts i 0)) (sym (other_inode i ne)) ∙ has) k ten
        (subst (λ (n : Inode). sectors_of n.size ≤ k) (other_inode i ne) past)

    other_sector : (q : ℕ) → q ≢ s → sector_at new q ≡ sector_at mid q
    other_sector q ne = ap (λ x. sector_at x q) puts.is ∙ get_or-set_other mid s q puts.bytes [] ne

    not_here : (q : ℕ) → q ≡ s → (q < 2) ⊎ (s + 1 ≤ q) → ⊥
    not_here q e (inl lt) = omega (arith, e, lt, low)
    not_here q e (inr ge) = omega (arith, e, ge)

    still_out : (q : ℕ) → (q < 2) ⊎ (s + 1 ≤ q) → (q < 2) ⊎ (s ≤ q)
    still_out q (inl lt) = inl lt
    still_out q (inr ge) = inr (omega (arith, ge))

    -- where the inodes of the sector had nothing to mend, it is as it was
    same_here : AreSettledIn old counts s → sector_at new s ≡ sector_at mid s
    same_here all = ap (λ x. sector_at x s) (puts.is ∙ ap (set mid s) (puts.settled.same each) ∙ set-get_or mid s [])
      where
        each : AreSettledHere mid (sector_at mid s) s counts
        each i one at =
            let in' : is_inode mid i ≡ true = number_in i one at in
            let read : inode_at mid i ≡ inode_here (sector_at mid s) i = inode_read mid i in' ∙ ap (λ q. inode_here (sector_at mid q) i) at in
            let was : inode_at mid i ≡ inode_at old i = so_far.after i in' (omega (arith, at)) in
            subst (λ (n : Inode). settled_inode n (get_or counts i 0) (holds_in mid n) ≡ n) read
            (settled_has mid (inode_at mid i) (get_or counts i 0)
            ∙ (λ z. settled_inode (was z) (get_or counts i 0) (so_far.has i in' (omega (arith, at)) z))
            ∙ all i (sym (is_inode_mid i) ∙ in') at ∙ sym was)

    pub settle_step : SettledTo old new counts (s + 1)
    settle_step = record {
      files = settle_files;
      before = λ i in' below. let in'' : is_inode mid i ≡ true = sym (is_inode_new i) ∙ in' in ⊎_elim
          (λ (e : inode_sector i ≡ s). here_inode i e in'' ∙ settled_has mid (inode_at mid i) (get_or counts i 0)
          ∙ (λ z. settled_inode (so_far.after i in'' (omega arith) z) (get_or counts i 0) (so_far.has i in'' (omega arith) z)))
          (λ (ne : inode_sector i ≢ s). other_inode i ne ∙ so_far.before i in'' (omega arith))
          (cases_eq (inode_sector i) s);
      after = λ i in' past. let in'' : is_inode mid i ≡ true = sym (is_inode_new i) ∙ in' in other_inode i (λ e. omega arith) ∙ so_far.after i in'' (omega arith);
      has = λ i in' past. let in'' : is_inode mid i ≡ true = sym (is_inode_new i) ∙ in' in
          ap (λ (n : Inode). has_map new n (get_or counts i 0)) (other_inode i (λ e. omega arith)) ∙ same_has i ∙ so_far.has i in'' (omega arith);
      trimmed = λ i in' past. let in'' : is_inode mid i ≡ true = sym (is_inode_new i) ∙ in' in
          still_trimmed i (λ e. omega arith) (so_far.trimmed i in'' (omega arith));
      settled = λ i in' below. let in'' : is_inode mid i ≡ true = sym (is_inode_new i) ∙ in' in ⊎_elim
          (λ (e : inode_sector i ≡ s). here i in'' e (so_far.trimmed i in'' (omega arith)))
          (λ (ne : inode_sector i ≢ s). still_settled (frame mid) (frame new) i (get_or counts i 0) (other_head i ne) (other_address i ne) (so_far.settled i in'' (omega arith)))
          (cases_eq (inode_sector i) s);
      kept = λ q past below all. ⊎_elim
          (λ (e : q ≡ s). subst (λ p. sector_at new p ≡ sector_at old p) (sym e) (same_here (subst (AreSettledIn old counts) e all) ∙ so_far.rest s (inr (omega arith))))
          (λ (ne : q ≢ s). other_sector q ne ∙ so_far.kept q past (omega arith) all)
          (cases_eq q s);
      rest = λ q out. other_sector q (λ e. not_here q e out) ∙ so_far.rest q (still_out q out);
    }

  -- at each moment the files are kept
  pub settle_moment : (d : Image) → MaySettle mid s counts d → KeepsFiles old d
  settle_moment d (inl e) = subst (KeepsFiles old) (sym e) so_far.files
  settle_moment d (inr puts) = settle_files d puts

  -- the inodes of the sector are inodes of the volume, so their blocks of addresses stand
  pub settle_maps : (i : ℕ) → 1 ≤ i → inode_sector i ≡ s → MapStands mid (inode_here (sector_at mid s) i)
  settle_maps i one at = subst (MapStands mid) (read i in' ∙ ap (λ q. inode_here (sector_at mid q) i) at) (map_stands i)
    where
      in' : is_inode mid i ≡ true
      in' = number_in i one at

      read : (i : ℕ) → is_inode mid i ≡ true → inode_at mid i ≡ inode_here (sector_at mid (inode_sector i)) i
      read i in' = inode_read mid i in'

      map_stands : (i : ℕ) → MapStands mid (inode_at mid i)
      map_stands i used nz =
          let at : (frame mid).address i Single ≡ (inode_at mid i).single = address_single mid i (used_of mid i used) in
          let in' = address-inside mid weak_mid i Single (λ z. nz (sym at ∙ z)) in
          (omega (arith, subst (λ q. 3 ≤ q) at in'.0), subst (λ q. q < length mid) at in'.2)

-- when all are settled, there is nothing to mend
pub settled_strong : (old new : Image) (counts : List ℕ) (n : ℕ) → IsWeak (frame old) → AreLinks old counts → n ≡ isize_of old → SettledTo old new counts n → IsStrong (frame new)
settled_strong old new counts n weak are end all = strong
  where
    isize : isize_of new ≡ isize_of old
    isize = ap (λ b. field b 0 2) all.files.first

    is_inode_old : (i : ℕ) → is_inode new i ≡ is_inode old i
    is_inode_old i z = leb 1 i && leb i ((isize z - 2) * 8)

    in_volume : (i : ℕ) → ((frame new).head i).is_used ≡ true → is_inode new i ≡ true
    in_volume i used = let r = number_range new i used in and_both (leb 1 i) (leb i (inodes_before (isize_of new))) (leb_true 1 i r.0) (leb_true i (inodes_before (isize_of new)) r.1)

    here : (i : ℕ) → ((frame new).head i).is_used ≡ true → IsSettled (frame new) i (get_or counts i 0)
    here i used = let r = number_range new i used in let low = r.0 in let high = r.1 in
        all.settled i (in_volume i used) (omega (arith, low, high, isize, end))

    counts_is : (i : ℕ) → ((frame new).head i).is_used ≡ true → get_or counts i 0 ≡ links (tree (frame new)) i
    counts_is i used = are i (sym (is_inode_old i) ∙ in_volume i used) ∙ sym (keeps-links old new weak all.files i)

    strong : IsStrong (frame new)
    strong = record {
      weak = keeps-weak old new weak all.files;
      counted = λ i used. (here i used).counted used ∙ counts_is i used;
      named = λ i used. let some = (here i used).named used in
          or_right (is_walked (tree (frame new)) i) _ (lt-ltb 0 (links (tree (frame new)) i) (omega (arith, some, counts_is i used)));
      none_past = λ i k past. ⊎_elim (λ (z : (frame new).address i (Body k) ≡ 0). z)
          (λ (nz : (frame new).address i (Body k) ≢ 0). (here i ((frame-IsFrame new).places i (Body k) nz).0).none_past k past)
          (cases_eq ((frame new).address i (Body k)) 0);
      single_needed = λ i nz. (here i ((frame-IsFrame new).places i Single nz).0).single_needed nz;
    }
