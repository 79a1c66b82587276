-- Quiet puts before a plan, and in its midst.
use Rattle.std.proofs.Common.{◌≡◌, ℕ, ◌-◌, ◌<◌, ◌≤◌, List, [], ◌∷◌, ◌++◌, length, set, refl, sym, ap, subst, ◌∙◌, length-set, inl}
use Rattle.std.specs.List.{AllByRecursion}
use Rattle.files_model.specs.Files.{Files}
use Rattle.files_model.specs.Torn.{Asked, Torn, after_calls}
use Rattle.stable.specs.Store.{Image}
use Rattle.stable.specs.Puts.{put_all, EachPrefix}
use Rattle.v7_map.specs.Frame.{frame}
use Rattle.v7_map.specs.Tree.{tree}
use Rattle.v7_map.specs.View.{view, files_of, body_at}
use Rattle.v7_map.specs.Weak.{IsWeak, IsStrong}
use Rattle.v7_map.specs.Plans.{IsTornImage, IsPlanOf}
use Rattle.v7_map.specs.Image.{inode_at, is_read_only}
use Rattle.v7_map.proofs.Prefixes.{prefix-append, put_all-append}
use Rattle.v7_map.proofs.Puts.{length-put_all, all_append}
use Rattle.v7_plans.specs.Quiet.{IsQuiet, AllQuiet}

-- the files are the same
same_view : (image : Image) (p : ℕ × List ℕ) → IsQuiet image p → view (set image p.0 p.1) ≡ view image
unfolding view
same_view image p q = (λ z. files_of (tree (q.same_frame z)) ((q.same_frame z).fsize - (q.same_frame z).isize) (λ j. q.same_inodes j z) (λ j. q.same_bodies j z) (is_read_only (q.same_first z)))

pub quiet-frame : (puts : List (ℕ × List ℕ)) (image : Image) → AllQuiet puts image → frame (put_all puts image) ≡ frame image
quiet-frame [] image q = refl
quiet-frame (p ∷ ps) image q = quiet-frame ps (set image p.0 p.1) q.1 ∙ q.0.same_frame

pub quiet-view : (puts : List (ℕ × List ℕ)) (image : Image) → AllQuiet puts image → view (put_all puts image) ≡ view image
quiet-view [] image q = refl
quiet-view (p ∷ ps) image q = quiet-view ps (set image p.0 p.1) q.1 ∙ same_view image p q.0

pub quiet-inodes : (puts : List (ℕ × List ℕ)) (image : Image) → AllQuiet puts image → (j : ℕ) → inode_at (put_all puts image) j ≡ inode_at image j
quiet-inodes [] image q j = refl
quiet-inodes (p ∷ ps) image q j = quiet-inodes ps (set image p.0 p.1) q.1 j ∙ q.0.same_inodes j

pub quiet-bodies : (puts : List (ℕ × List ℕ)) (image : Image) → AllQuiet puts image → (j : ℕ) → body_at (put_all puts image) (frame (put_all puts image)) j ≡ body_at image (frame image) j
quiet-bodies [] image q j = refl
quiet-bodies (p ∷ ps) image q j = quiet-bodies ps (set image p.0 p.1) q.1 j ∙ q.0.same_bodies j

-- what is torn stays so
torn_along : (files : Files) (calls : List Asked) (now : ℕ) (old new : Image) → frame new ≡ frame old → view new ≡ view old → IsTornImage files calls now old → IsTornImage files calls now new
torn_along files calls now old new f v t = record { weak = subst IsWeak (sym f) t.weak; torn = subst (Torn files calls now) (sym v) t.torn }

pub quiet-prefixes : (files : Files) (calls : List Asked) (now : ℕ) (puts : List (ℕ × List ℕ)) (image : Image) → AllQuiet puts image → IsTornImage files calls now image → EachPrefix (IsTornImage files calls now) puts image
quiet-prefixes files calls now [] image q t = t
quiet-prefixes files calls now (p ∷ ps) image q t = (t, quiet-prefixes files calls now ps (set image p.0 p.1) q.1 (torn_along files calls now image (set image p.0 p.1) q.0.same_frame (same_view image p q.0) t))

pub quiet-past : (puts : List (ℕ × List ℕ)) (image : Image) → AllQuiet puts image → AllByRecursion (λ (put : ℕ × List ℕ). 2 ≤ put.0) puts
quiet-past [] image q = tt
quiet-past (p ∷ ps) image q = (q.0.past, quiet-past ps (set image p.0 p.1) q.1)

pub quiet-inside : (n : ℕ) (puts : List (ℕ × List ℕ)) (image : Image) → length image ≡ n → AllQuiet puts image → AllByRecursion (λ (put : ℕ × List ℕ). put.0 < n) puts
quiet-inside n [] image e q = tt
quiet-inside n (p ∷ ps) image e q = (subst (λ m. p.0 < m) e q.0.inside, quiet-inside n ps (set image p.0 p.1) (length-set image p.0 p.1 ∙ e) q.1)

pub quiet-whole : (puts : List (ℕ × List ℕ)) (image : Image) → AllQuiet puts image → AllByRecursion (λ (put : ℕ × List ℕ). length put.1 ≡ 512) puts
quiet-whole [] image q = tt
quiet-whole (p ∷ ps) image q = (q.0.whole, quiet-whole ps (set image p.0 p.1) q.1)

-- quiet puts before a plan: the plan is built on the image after them
pub quiet-plan : (image : Image) (calls : List Asked) (now : ℕ) (first puts : List (ℕ × List ℕ)) → AllQuiet first image → IsWeak (frame image) → IsPlanOf (put_all first image) calls now puts → IsPlanOf image calls now (first ++ puts)
quiet-plan image calls now first puts q weak plan =
    let v : view (put_all first image) ≡ view image = quiet-view first image q in
    let begins : EachPrefix (IsTornImage (view image) calls now) first image = quiet-prefixes (view image) calls now first image q (record { weak = weak; torn = inl refl }) in
    let goes_on : EachPrefix (IsTornImage (view image) calls now) puts (put_all first image) = subst (λ f. EachPrefix (IsTornImage f calls now) puts (put_all first image)) v plan.prefixes in
    record {
      past = all_append (λ (put : ℕ × List ℕ). 2 ≤ put.0) first puts (quiet-past first image q) plan.past;
      inside = all_append (λ (put : ℕ × List ℕ). put.0 < length image) first puts (quiet-inside (length image) first image refl q) (subst (λ n. AllByRecursion (λ (put : ℕ × List ℕ). put.0 < n) puts) (length-put_all first image) plan.inside);
      whole = all_append (λ (put : ℕ × List ℕ). length put.1 ≡ 512) first puts (quiet-whole first image q) plan.whole;
      prefixes = prefix-append (IsTornImage (view image) calls now) first puts image begins goes_on;
      strong = subst (λ i. IsStrong (frame i)) (sym (put_all-append first puts image)) plan.strong;
      after = ap view (put_all-append first puts image) ∙ plan.after ∙ ap (λ f. after_calls f calls now) v;
    }
