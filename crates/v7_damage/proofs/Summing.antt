-- What an inode needs, whether it is tidy, and the summaries of the inodes.
use Rattle.std.proofs.Common.{◌≡◌, ℕ, suc, ◌+◌, ◌<◌, Bool, true, false, cond, not, ◌&&◌, ◌||◌, ◌==◌, List, [], ◌∷◌, ◌++◌, length, get_or, refl, sym, ap, subst, ◌∙◌, arith, ⊎_elim, ltb, leb, ◌≤◌}
use Rattle.std.specs.List.{range_with_len, list_any, list_all}
use Rattle.std.proofs.lemmas.Bool.{cases_lt}
use Rattle.std.proofs.lemmas.List.{get_or_push, get_or_append_left}
use Rattle.files_model.specs.Files.{sectors_of}
use Rattle.stable.specs.Store.{Image}
use Rattle.v7_layout.specs.declared.inode.Inode.{Inode}
use Rattle.v7_map.specs.Frame.{Frame, Head, Body, Single, frame}
use Rattle.v7_map.proofs.AnyFrame.{frame-IsFrame}
use Rattle.v7_damage.specs.declared.summary.Summary.{Summary}
use Rattle.v7_damage.specs.Stored.{body_at}
use Rattle.v7_damage.specs.Summaries.{AreSummaries, is_at, is_tidy, needed_by, needs, no_summary, none_past, sectors_in_size, some_listed, summary_at, summary_by}
use Rattle.v7_damage.specs.Tests.{HasInode}
use Rattle.v7_damage.proofs.BodyPlaces.{body-blocks}
use Rattle.v7_damage.proofs.Ranges.{all_same, all_step, any_same, any_step, count_same}

-- ---- what an inode needs

pub needed_same : (p q : ℕ → Bool) (n : ℕ) → ((k : ℕ) → k < n → p k ≡ q k) → needed_by p n ≡ needed_by q n
needed_same p q n same =
    let a = count_same p q 0 n (λ k low high. same k (omega arith)) in
    let b = any_same (λ k. leb 10 k && p k) (λ k. leb 10 k && q k) 0 n (λ k low high. ap (λ t. leb 10 k && t) (same k (omega arith))) in
    λ z. a z + cond (b z) 1 0

-- ---- whether it is tidy

pub past_none : (at : ℕ → ℕ) (size : ℕ) → true ≡ none_past at size 0
unfolding none_past
past_none at size = refl

pub past_more : (at : ℕ → ℕ) (size k : ℕ) → none_past at size (k + 1) ≡ (none_past at size k && (ltb k (sectors_of size) || (at k == 0)))
unfolding none_past
past_more at size k = (let e : k + 1 ≡ suc k = omega arith in ap (λ n. list_all (λ k. ltb k (sectors_of size) || (at k == 0)) (range_with_len 0 n)) e)
    ∙ all_step (λ k. ltb k (sectors_of size) || (at k == 0)) 0 k
    ∙ (let e : 0 + k ≡ k = omega arith in ap (λ i. list_all (λ k. ltb k (sectors_of size) || (at k == 0)) (range_with_len 0 k) && (ltb i (sectors_of size) || (at i == 0))) e)

pub listed_none : (at : ℕ → ℕ) → false ≡ some_listed at 0
unfolding some_listed
listed_none at = refl

pub listed_more : (at : ℕ → ℕ) (k : ℕ) → some_listed at (k + 1) ≡ (some_listed at k || not (at (k + 10) == 0))
unfolding some_listed
listed_more at k = (let e : k + 1 ≡ suc k = omega arith in ap (λ n. list_any (λ k. not (at k == 0)) (range_with_len 10 n)) e)
    ∙ any_step (λ k. not (at k == 0)) 10 k
    ∙ (let e : 10 + k ≡ k + 10 = omega arith in ap (λ i. list_any (λ k. not (at k == 0)) (range_with_len 10 k) || not (at i == 0)) e)

-- only the first 138 sectors count
tidy_same : (at other : ℕ → ℕ) (single alike size : ℕ) → ((k : ℕ) → k < 138 → at k ≡ other k) → single ≡ alike → is_tidy at single size ≡ is_tidy other alike size
unfolding none_past some_listed
tidy_same at other single alike size same one =
    let past = all_same (λ k. ltb k (sectors_of size) || (at k == 0)) (λ k. ltb k (sectors_of size) || (other k == 0)) 0 138 (λ k low high. ap (λ a. ltb k (sectors_of size) || (a == 0)) (same k (omega arith))) in
    let some = any_same (λ k. not (at k == 0)) (λ k. not (other k == 0)) 10 128 (λ k low high. ap (λ a. not (a == 0)) (same k (omega arith))) in
    λ z. past z && ((one z == 0) || some z)

-- ---- the summaries

-- what was read is summed up as the frame has it
pub summary_is : (f : Frame) (i isize fsize : ℕ) (n : Inode) (places : List ℕ) → HasInode f i isize fsize n places → summary_by n places ≡ summary_at f i
unfolding needs
summary_is f i isize fsize n places has =
    let size : n.size ≡ (f.head i).size = ap (λ (h : Head). h.size) (sym has.head) in
    let nlink : n.nlink ≡ (f.head i).nlink = ap (λ (h : Head). h.nlink) (sym has.head) in
    let at : (k : ℕ) → k < 138 → body_at places k ≡ f.address i (Body k) = body-blocks f i isize fsize n places has in
    let one : get_or places 10 0 ≡ f.address i Single = sym (has.blocks 10 (omega arith)) in
    let needed : needed_by (is_at places) (sectors_in_size n.size) ≡ needed_by (λ k. not (f.address i (Body k) == 0)) (sectors_in_size (f.head i).size) =
    needed_same (is_at places) (λ k. not (f.address i (Body k) == 0)) (sectors_in_size n.size) (λ k lt. let low : k < 138 = omega arith in ap (λ a. not (a == 0)) (at k low))
    ∙ ap (λ s. needed_by (λ k. not (f.address i (Body k) == 0)) (sectors_in_size s)) size in
    let tidy : is_tidy (body_at places) (get_or places 10 0) n.size ≡ is_tidy (λ k. f.address i (Body k)) (f.address i Single) (f.head i).size =
    tidy_same (body_at places) (λ k. f.address i (Body k)) (get_or places 10 0) (f.address i Single) n.size at one ∙ ap (is_tidy (λ k. f.address i (Body k)) (f.address i Single)) size in
    λ z. record { nlink = nlink z; needs = needed z; tidy = tidy z }

-- before the first inode
pub summaries_first : (image : Image) (summaries : List Summary) → AreSummaries (frame image) summaries 1
summaries_first image summaries = record { each = λ i lt used. let low = ((frame-IsFrame image).numbers i used).0 in absurd (omega arith) }

-- one inode more
pub summaries_more : (f : Frame) (old new : List Summary) (s : Summary) (n : ℕ) → length old ≡ n → new ≡ old ++ s ∷ [] → ((f.head n).is_used ≡ true → s ≡ summary_at f n) → AreSummaries f old n
    → AreSummaries f new (n + 1)
summaries_more f old new s n long is here was = record {
  each = λ i lt used. ⊎_elim
      (λ (before : i < n). ap (λ l. get_or l i no_summary) is ∙ get_or_append_left old (s ∷ []) no_summary i (omega arith) ∙ was.each i before used)
      (λ (ge : n ≤ i). let same : i ≡ n = omega arith in ap (λ l. get_or l i no_summary) is ∙ get_or_push old s no_summary i (omega arith)
      ∙ here (subst (λ j. (f.head j).is_used ≡ true) same used) ∙ ap (summary_at f) (sym same))
      (cases_lt i n);
}
