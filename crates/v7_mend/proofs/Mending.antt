-- Blocks of addresses are trimmed, and then inodes are settled.
use Rattle.std.proofs.Common.{◌≡◌, ℕ, ◌+◌, ◌-◌, ◌*◌, ◌<◌, ◌≤◌, true, ◌&&◌, inl, inr, cond, List, [], length, get_or, refl, sym, ap, subst, ◌∙◌, arith, ⊎_elim, leb}
use Rattle.std.proofs.lemmas.Bool.{cases_lt, leb-true}
use Rattle.v7_layout.specs.Numbers.{part, field}
use Rattle.v7_layout.specs.Records.{inode_of}
use Rattle.stable.specs.Store.{Image}
use Rattle.v7_map.specs.Image.{sector_at, is_inode, inode_at, inode_sector, inode_offset, isize_of, inodes_before}
use Rattle.v7_map.specs.Frame.{Single, frame}
use Rattle.v7_map.specs.Weak.{IsWeak}
use Rattle.v7_map.proofs.AnyFrame.{frame-IsFrame}
use Rattle.v7_map.proofs.Frames.{and_left, and_right}
use Rattle.v7_map.proofs.Ranges.{address-inside}
use Rattle.v7_map.proofs.Walks.{and_both}
use Rattle.v7_mend.specs.Changes.{Differ, HasInodes, IsMapIn, MayChange}
use Rattle.v7_mend.specs.Keeps.{KeepsFiles, KeepsInode, FreesInode}
use Rattle.v7_mend.specs.Repairs.{AreLinks, AreSettled, AreSettledIn, SettledTo, Repairs, IsMended}
use Rattle.v7_mend.specs.Settled.{settled_inode}
use Rattle.v7_mend.specs.Trims.{AreTrimmed, IsTrimmedIn, first_in}
use Rattle.v7_mend.proofs.Differing.{differ_then}
use Rattle.v7_mend.proofs.KeptFrames.{keeps-links, keeps-weak, named_kept, freed-address}
use Rattle.v7_mend.proofs.KeptFiles.{keeps_same, keeps_then, keeps-view}
use Rattle.v7_mend.proofs.Decisions.{settled_has}
use Rattle.v7_mend.proofs.Mapping.{used_of, map_parts}
use Rattle.v7_mend.proofs.Needed as Needed
use Rattle.v7_mend.proofs.SettleSteps.{leb_true, settled_strong}
use Rattle.v7_mend.proofs.TrimSteps.{inodes_stay, map_data}
use Rattle.v7_mend.proofs.Trimming.{address_single}

-- a used inode is one of the volume's
in_volume : (image : Image) (i : ℕ) → ((frame image).head i).is_used ≡ true → is_inode image i ≡ true
unfolding frame
in_volume image i used = let r = (frame-IsFrame image).numbers i used in and_both (leb 1 i) (leb i (inodes_before (isize_of image))) (leb_true 1 i r.0) (leb_true i (inodes_before (isize_of image)) r.1)

module _ (old mid : Image) (counts : List ℕ) (isize : ℕ) (end : isize ≡ isize_of old) (weak : IsWeak (frame old)) (trimmed : AreTrimmed old mid counts 1 (first_in isize)) where
  same_isize : isize_of mid ≡ isize_of old
  same_isize = ap (λ b. field b 0 2) trimmed.files.first

  is_inode_same : (i : ℕ) → is_inode mid i ≡ is_inode old i
  is_inode_same i z = leb 1 i && leb i ((same_isize z - 2) * 8)

  pub weak_trimmed : IsWeak (frame mid)
  weak_trimmed = keeps-weak old mid weak trimmed.files

  pub begin : SettledTo mid mid counts 2
  begin = record {
    files = keeps_same mid;
    kept = λ s past below all. absurd (omega arith);
    rest = λ s out. refl;
    trimmed = λ i in' past.
        let one : 1 ≤ i = leb-true 1 i (and_left (leb 1 i) _ in') in
        let most : i ≤ inodes_before (isize_of mid) = leb-true i (inodes_before (isize_of mid)) (and_right (leb 1 i) _ in') in
        let most' : i ≤ inodes_before (isize_of old) = subst (λ n. i ≤ inodes_before n) same_isize most in
        trimmed.trimmed i one (omega (arith, most', end));
    before = λ i in' below. absurd (omega arith);
    after = λ i in' past. refl;
    has = λ i in' past. refl;
    settled = λ i in' below. absurd (omega arith);
  }

  pub links_still : AreLinks old counts → AreLinks mid counts
  links_still are i in' = are i (sym (is_inode_same i) ∙ in') ∙ sym (keeps-links old mid weak trimmed.files i)

  module _ (new : Image) (settled : SettledTo mid new counts isize) where
    files : KeepsFiles old new
    files = keeps_then old mid new weak trimmed.files settled.files

    inodes : AreSettled old new counts
    inodes i in' =
        let new_isize : isize_of new ≡ isize_of mid = ap (λ b. field b 0 2) settled.files.first in
        let in_mid : is_inode mid i ≡ true = is_inode_same i ∙ in' in
        let in_new : is_inode new i ≡ true = (λ z. leb 1 i && leb i ((new_isize z - 2) * 8)) ∙ in_mid in
        let one : 1 ≤ i = leb-true 1 i (and_left (leb 1 i) _ in') in
        let most : i ≤ inodes_before (isize_of old) = leb-true i (inodes_before (isize_of old)) (and_right (leb 1 i) _ in') in
        settled.before i in_new (omega (arith, one, most, end))
        ∙ (λ z. settled_inode (inodes_stay old mid trimmed.files.first trimmed.sectors i z) (get_or counts i 0) (trimmed.has i (get_or counts i 0) z))

    repairs : AreLinks old counts → Repairs old new
    repairs are = record {
      strong = settled_strong mid new counts isize weak_trimmed (links_still are) (end ∙ sym same_isize) settled;
      view = keeps-view old new weak files;
      places = λ i p nz. ⊎_elim
          (λ (k : KeepsInode old new i). k.places p nz)
          (λ (f : FreesInode old new i). absurd (nz (freed-address old new weak files i p f)))
          (files.inodes i);
      below = λ i k named lt. (named_kept old new weak files i named).below k lt;
    }

    module _ (are : AreLinks old counts) (long : (s : ℕ) → s < length old → length (sector_at old s) ≡ 512) where
      module _ (other : Image) (r : Repairs old other) (s : ℕ) (same : sector_at other s ≡ sector_at old s) where
        low_isize : 3 ≤ isize_of old
        unfolding frame
        low_isize = weak.sizes.low

        inode_same : (i : ℕ) → inode_sector i ≡ s → inode_at other i ≡ inode_at old i
        unfolding inode_at
        inode_same i at =
            let e : isize_of other ≡ isize_of old = Needed.same_isize old other weak r in
            let here : sector_at other (inode_sector i) ≡ sector_at old (inode_sector i) = subst (λ q. sector_at other q ≡ sector_at old q) (sym at) same in
            λ z. cond (leb 1 i && leb i ((e z - 2) * 8)) (inode_of (part (here z) (inode_offset i) 64)) (inode_of [])

        inodes_settled : AreSettledIn mid counts s
        inodes_settled i in' at =
            let stay : inode_at mid i ≡ inode_at old i = inodes_stay old mid trimmed.files.first trimmed.sectors i in
            let in'' : is_inode old i ≡ true = sym (is_inode_same i) ∙ in' in
            (λ z. settled_inode (stay z) (get_or counts i 0) (trimmed.has i (get_or counts i 0) z))
            ∙ sym (settled_has old (inode_at old i) (get_or counts i 0))
            ∙ Needed.inode_stays old other weak r i (get_or counts i 0) (inode_same i at) (are i) in'' ∙ sym stay

        map_trimmed : IsTrimmedIn old counts s
        map_trimmed i has at =
            let p = map_parts old (inode_at old i) (get_or counts i 0) has in
            let used = used_of old i p.0 in
            let single : (frame old).address i Single ≡ s = address_single old i used ∙ at in
            let in' : s < length old = subst (λ q. q < length old) single (address-inside old weak i Single (λ z. p.1 (sym (address_single old i used) ∙ z))).2 in
            Needed.map_stays old other weak r i (get_or counts i 0) s (are i (in_volume old i used)) has at same (long s in')

        stays : sector_at new s ≡ sector_at old s
        stays = let low = low_isize in ⊎_elim
            (λ (first : s < 2). settled.rest s (inl first) ∙ trimmed.sectors s (omega arith))
            (λ (past : 2 ≤ s). ⊎_elim
            (λ (below : s < isize_of old). settled.kept s past (omega arith) inodes_settled ∙ trimmed.sectors s below)
            (λ (data' : isize_of old ≤ s). settled.rest s (inr (omega arith)) ∙ trimmed.kept s map_trimmed)
            (cases_lt s (isize_of old)))
            (cases_lt s 2)

      pub mended : IsMended old new counts
      mended = record { repairs = repairs are; inodes = inodes; needed = λ other r s changed same. changed (stays other r s same) }

    -- the sectors of both passes
    pub exact_then : (n m : ℕ) → Differ (IsMapIn old 1 (first_in isize)) old mid n → Differ (HasInodes isize) mid new m → Differ (MayChange old) old new (n + m)
    exact_then n m p q =
        differ_then (IsMapIn old 1 (first_in isize)) (HasInodes isize) (MayChange old) old mid new n m
        (λ s t map in' e. let below = in'.1 in let past = map_data old weak 1 (first_in isize) s map in omega (arith, past, below, e, end))
        (λ s map. inr (map.0, map.3, map.4)) (λ s in'. inl (in'.0, subst (λ n. s < n) end in'.1)) p q
