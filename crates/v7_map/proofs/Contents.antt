-- The bytes of a body, sector by sector.
use Rattle.std.proofs.Common.{◌≡◌, ◌≢◌, ℕ, zero, suc, ◌+◌, ◌-◌, ◌*◌, ◌<◌, ◌≤◌, cond, List, [], ◌++◌, length, take, drop, refl, sym, ap, ◌∙◌, arith, ⊎_elim, length-append, length-take, length-drop}
use Rattle.std.proofs.Math.Seq.{take-add}
use Rattle.std.proofs.lemmas.Bool.{cases_eq, ne_eqb, eq-eqb}
use Rattle.std.proofs.lemmas.List.{drop-drop, drop-take, drop_at, drop-append-le, take-append-le, take-take, length-replicate}
use Rattle.std.specs.List.{range_with_len, flat_map}
use Rattle.stable.specs.Store.{Image}
use Rattle.v7_layout.specs.declared.inode.Inode.{Inode}
use Rattle.files_model.specs.Files.{sectors_of, clipped}
use Rattle.files_model.specs.Step.{zeros}
use Rattle.files_model.proofs.Clips.{length-clipped}
use Rattle.v7_map.specs.Image.{IsImage, sector_at}
use Rattle.v7_map.specs.Stored.{sector_in, stored_sector, stored_content}
use Rattle.v7_map.proofs.SectorOf.{sector_in-within}

-- so many bytes and then so many more
pub take-more : (a b o : ℕ) (xs : List ℕ) → take (a + b) (drop o xs) ≡ take a (drop o xs) ++ take b (drop (o + a) xs)
take-more a b o xs = take-add a b (drop o xs) ∙ ap (λ ys. take a (drop o xs) ++ take b ys) (drop-drop a o xs)

-- ---- lists of sectors

length-sectors : (f : ℕ → List ℕ) (a m : ℕ) → ((k : ℕ) → length (f k) ≡ 512) → length (flat_map f (range_with_len a m)) ≡ 512 * m
length-sectors f a zero long = refl
length-sectors f a (suc m) long =
    let rest = length-sectors f (a + 1) m long in
    let first = long a in
    length-append (f a) (flat_map f (range_with_len (a + 1) m)) ∙ omega arith

-- the sectors from the j-th on
drop-sectors : (f : ℕ → List ℕ) (j a m : ℕ) → ((k : ℕ) → length (f k) ≡ 512) → drop (512 * j) (flat_map f (range_with_len a (j + m))) ≡ flat_map f (range_with_len (a + j) m)
drop-sectors f zero a m long =
    let none : 0 + m ≡ m = omega arith in
    let same : a ≡ a + 0 = omega arith in
    ap (λ n. flat_map f (range_with_len a n)) none ∙ ap (λ n. flat_map f (range_with_len n m)) same
drop-sectors f (suc j) a m long =
    let rest : List ℕ = flat_map f (range_with_len (a + 1) (j + m)) in
    let split : 512 * suc j ≡ 512 + 512 * j = omega arith in
    let more : suc j + m ≡ suc (j + m) = omega arith in
    let next : a + 1 + j ≡ a + suc j = omega arith in
    ap (λ n. drop (512 * suc j) (flat_map f (range_with_len a n))) more
    ∙ ap (λ n. drop n (f a ++ rest)) split ∙ sym (drop-drop (512 * j) 512 (f a ++ rest))
    ∙ ap (drop (512 * j)) (drop_at (f a) rest 512 (long a)) ∙ drop-sectors f j (a + 1) m long
    ∙ ap (λ n. flat_map f (range_with_len n m)) next

-- bytes within the k-th sector
sector-part : (f : ℕ → List ℕ) (k m r b : ℕ) → ((j : ℕ) → length (f j) ≡ 512) → k < m → r + b ≤ 512
    → take b (drop (512 * k + r) (flat_map f (range_with_len 0 m))) ≡ take b (drop r (f k))
sector-part f k m r b long below inside =
    let left : ℕ = m - k - 1 in
    let count : m ≡ k + suc left = omega arith in
    let from : 0 + k ≡ k = omega arith in
    let one = long k in
    let tail : List ℕ = flat_map f (range_with_len (k + 1) left) in
    ap (take b) (sym (drop-drop r (512 * k) (flat_map f (range_with_len 0 m)))
    ∙ ap (λ n. drop r (drop (512 * k) (flat_map f (range_with_len 0 n)))) count
    ∙ ap (drop r) (drop-sectors f k 0 (suc left) long)
    ∙ ap (λ n. drop r (flat_map f (range_with_len n (suc left)))) from
    ∙ drop-append-le r (f k) tail (omega arith))
    ∙ take-append-le b (drop r (f k)) tail (omega (arith, length-drop r (f k)))

module _ (image : Image) (n : Inode) where
  pub sector-none : (k : ℕ) → sector_in image n k ≡ 0 → stored_sector image n k ≡ zeros
  unfolding stored_sector
  sector-none k none z = cond (eq-eqb (sector_in image n k) 0 none z) zeros (clipped n.size k (sector_at image (sector_in image n k)))

  pub sector-some : (k : ℕ) → sector_in image n k ≢ 0 → stored_sector image n k ≡ clipped n.size k (sector_at image (sector_in image n k))
  unfolding stored_sector
  sector-some k some z = cond (ne_eqb (sector_in image n k) 0 some z) zeros (clipped n.size k (sector_at image (sector_in image n k)))

  module _ (whole : IsImage image) where
    -- each sector of a body has 512 bytes
    pub length-stored_sector : (k : ℕ) → length (stored_sector image n k) ≡ 512
    length-stored_sector k = ⊎_elim
        (λ (none : sector_in image n k ≡ 0). ap length (sector-none k none) ∙ length-replicate {A = ℕ} 512 0)
        (λ (some : sector_in image n k ≢ 0). ap length (sector-some k some)
        ∙ length-clipped n.size k (sector_at image (sector_in image n k)) (whole (sector_in image n k) [] (sector_in-within image n k some)))
        (cases_eq (sector_in image n k) 0)

    -- a body has as many bytes as its size says
    pub length-content : length (stored_content image n) ≡ n.size
    unfolding stored_content
    length-content =
        let all = length-sectors (stored_sector image n) 0 (sectors_of n.size) length-stored_sector in
        length-take n.size (flat_map (stored_sector image n) (range_with_len 0 (sectors_of n.size))) ∙ omega arith

    -- bytes that lie in one sector and below the size are that sector's
    pub content-part : (k r b : ℕ) → r + b ≤ 512 → 512 * k + r + b ≤ n.size
        → take b (drop (512 * k + r) (stored_content image n)) ≡ take b (drop r (stored_sector image n k))
    unfolding stored_content
    content-part k r zero inside below = refl
    content-part k r (suc b) inside below =
        let all : List ℕ = flat_map (stored_sector image n) (range_with_len 0 (sectors_of n.size)) in
        let at : ℕ = 512 * k + r in
        let left : ℕ = n.size - at in
        let split : n.size ≡ at + left = omega arith in
        ap (λ size. take (suc b) (drop at (take size all))) split
        ∙ ap (take (suc b)) (drop-take at left all) ∙ take-take (suc b) left (drop at all) (omega arith)
        ∙ sector-part (stored_sector image n) k (sectors_of n.size) r (suc b) length-stored_sector (omega arith) inside
