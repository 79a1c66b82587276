-- Puts that change nothing but where the sectors of one directory past its size stand.
use Rattle.std.proofs.Common.{◌≡◌, ◌≢◌, ℕ, ◌-◌, ◌<◌, ◌≤◌, not, ◌==◌, List, [], ◌∷◌, length, set, refl, sym, ap, subst, ◌∙◌, length-set}
use Rattle.std.specs.List.{AllByRecursion, range_with_len, list_any}
use Rattle.v7_layout.specs.Numbers.{field}
use Rattle.files_model.specs.Files.{Files, sectors_of}
use Rattle.files_model.specs.Torn.{Asked, Torn}
use Rattle.stable.specs.Store.{Image}
use Rattle.stable.specs.Puts.{put_all, EachPrefix}
use Rattle.v7_map.specs.Image.{inode_at, is_read_only}
use Rattle.v7_map.specs.Frame.{Frame, Head, Place, Body, Single, frame}
use Rattle.v7_map.specs.Tree.{tree, links, is_named}
use Rattle.v7_map.specs.View.{view, files_of, body_at}
use Rattle.v7_map.specs.Weak.{IsWeak}
use Rattle.v7_map.specs.Plans.{IsTornImage}
use Rattle.v7_plans.specs.Quiet.{IsQuiet, IsMuted, AllMuted}
use Rattle.v7_plans.proofs.Local.{IsStrongBut}

pub quiet-muted : (p : ℕ) (image : Image) (put : ℕ × List ℕ) → IsWeak (frame image) → IsQuiet image put → IsMuted p image put
quiet-muted p image put weak q = record {
  past = q.past;
  inside = q.inside;
  whole = q.whole;
  weak = subst IsWeak (sym q.same_frame) weak;
  same_first = q.same_first;
  same_tree = ap tree q.same_frame;
  same_heads = λ j. ap (λ (f : Frame). f.head j) q.same_frame;
  same_addresses = λ j ne r. ap (λ (f : Frame). f.address j r) q.same_frame;
  same_inodes = q.same_inodes;
  same_bodies = q.same_bodies;
}

muted_view : (p : ℕ) (image : Image) (put : ℕ × List ℕ) → IsMuted p image put → view (set image put.0 put.1) ≡ view image
unfolding view frame
muted_view p image put q = (λ z. files_of (q.same_tree z) (field (q.same_first z) 2 4 - field (q.same_first z) 0 2) (λ j. q.same_inodes j z) (λ j. q.same_bodies j z) (is_read_only (q.same_first z)))

pub muted-weak : (p : ℕ) (puts : List (ℕ × List ℕ)) (image : Image) → AllMuted p puts image → IsWeak (frame image) → IsWeak (frame (put_all puts image))
muted-weak p [] image q weak = weak
muted-weak p (x ∷ xs) image q weak = muted-weak p xs (set image x.0 x.1) q.1 q.0.weak

pub muted-tree : (p : ℕ) (puts : List (ℕ × List ℕ)) (image : Image) → AllMuted p puts image → tree (frame (put_all puts image)) ≡ tree (frame image)
muted-tree p [] image q = refl
muted-tree p (x ∷ xs) image q = muted-tree p xs (set image x.0 x.1) q.1 ∙ q.0.same_tree

pub muted-heads : (p : ℕ) (puts : List (ℕ × List ℕ)) (image : Image) → AllMuted p puts image → (j : ℕ) → (frame (put_all puts image)).head j ≡ (frame image).head j
muted-heads p [] image q j = refl
muted-heads p (x ∷ xs) image q j = muted-heads p xs (set image x.0 x.1) q.1 j ∙ q.0.same_heads j

pub muted-addresses : (p : ℕ) (puts : List (ℕ × List ℕ)) (image : Image) → AllMuted p puts image → (j : ℕ) → j ≢ p → (r : Place) → (frame (put_all puts image)).address j r ≡ (frame image).address j r
muted-addresses p [] image q j ne r = refl
muted-addresses p (x ∷ xs) image q j ne r = muted-addresses p xs (set image x.0 x.1) q.1 j ne r ∙ q.0.same_addresses j ne r

pub muted-inodes : (p : ℕ) (puts : List (ℕ × List ℕ)) (image : Image) → AllMuted p puts image → (j : ℕ) → inode_at (put_all puts image) j ≡ inode_at image j
muted-inodes p [] image q j = refl
muted-inodes p (x ∷ xs) image q j = muted-inodes p xs (set image x.0 x.1) q.1 j ∙ q.0.same_inodes j

pub muted-bodies : (p : ℕ) (puts : List (ℕ × List ℕ)) (image : Image) → AllMuted p puts image → (j : ℕ) → body_at (put_all puts image) (frame (put_all puts image)) j ≡ body_at image (frame image) j
muted-bodies p [] image q j = refl
muted-bodies p (x ∷ xs) image q j = muted-bodies p xs (set image x.0 x.1) q.1 j ∙ q.0.same_bodies j

pub muted-view : (p : ℕ) (puts : List (ℕ × List ℕ)) (image : Image) → AllMuted p puts image → view (put_all puts image) ≡ view image
muted-view p [] image q = refl
muted-view p (x ∷ xs) image q = muted-view p xs (set image x.0 x.1) q.1 ∙ muted_view p image x q.0

pub muted-strong : (K : ℕ → Type 0) (p : ℕ) (puts : List (ℕ × List ℕ)) (image : Image) → AllMuted p puts image → IsStrongBut K p (frame image) → IsStrongBut K p (frame (put_all puts image))
muted-strong K p puts image q s = record {
  weak = muted-weak p puts image q s.weak;
  counted = λ j l u. ap (λ (h : Head). h.nlink) (muted-heads p puts image q j) ∙ s.counted j l (ap (λ (h : Head). h.is_used) (sym (muted-heads p puts image q j)) ∙ u) ∙ ap (λ t. links t j) (sym (muted-tree p puts image q));
  named = λ j l u. ap (λ t. is_named t j) (muted-tree p puts image q) ∙ s.named j l (ap (λ (h : Head). h.is_used) (sym (muted-heads p puts image q j)) ∙ u);
  none_past = λ j k ne le. muted-addresses p puts image q j ne (Body k) ∙ s.none_past j k ne (subst (λ (h : Head). sectors_of h.size ≤ k) (muted-heads p puts image q j) le);
  single_needed = λ j ne nz. (λ z. list_any (λ k. not (muted-addresses p puts image q j ne (Body k) z == 0)) (range_with_len 10 128)) ∙ s.single_needed j ne (λ z. nz (muted-addresses p puts image q j ne Single ∙ z));
}

pub muted-prefixes : (p : ℕ) (files : Files) (calls : List Asked) (now : ℕ) (puts : List (ℕ × List ℕ)) (image : Image) → AllMuted p puts image → IsTornImage files calls now image → EachPrefix (IsTornImage files calls now) puts image
muted-prefixes p files calls now [] image q t = t
muted-prefixes p files calls now (x ∷ xs) image q t = (t, muted-prefixes p files calls now xs (set image x.0 x.1) q.1 (record { weak = q.0.weak; torn = subst (Torn files calls now) (sym (muted_view p image x q.0)) t.torn }))

pub muted-past : (p : ℕ) (puts : List (ℕ × List ℕ)) (image : Image) → AllMuted p puts image → AllByRecursion (λ (put : ℕ × List ℕ). 2 ≤ put.0) puts
muted-past p [] image q = tt
muted-past p (x ∷ xs) image q = (q.0.past, muted-past p xs (set image x.0 x.1) q.1)

pub muted-inside : (p n : ℕ) (puts : List (ℕ × List ℕ)) (image : Image) → length image ≡ n → AllMuted p puts image → AllByRecursion (λ (put : ℕ × List ℕ). put.0 < n) puts
muted-inside p n [] image e q = tt
muted-inside p n (x ∷ xs) image e q = (subst (λ m. x.0 < m) e q.0.inside, muted-inside p n xs (set image x.0 x.1) (length-set image x.0 x.1 ∙ e) q.1)

pub muted-whole : (p : ℕ) (puts : List (ℕ × List ℕ)) (image : Image) → AllMuted p puts image → AllByRecursion (λ (put : ℕ × List ℕ). length put.1 ≡ 512) puts
muted-whole p [] image q = tt
muted-whole p (x ∷ xs) image q = (q.0.whole, muted-whole p xs (set image x.0 x.1) q.1)
