-- Where the sectors of a body stand.
use Rattle.std.proofs.Common.{◌≡◌, ◌≢◌, ℕ, ◌-◌, ◌*◌, ◌<◌, ◌≤◌, min, Bool, true, false, cond, not, ◌==◌, get_or, length, refl, sym, ap, subst, ◌∙◌, arith, ⊎_elim, ltb}
use Rattle.std.proofs.lemmas.Bool.{cases_lt, cases_eq, lt-ltb, le-ltb, ne_eqb}
use Rattle.stable.specs.Store.{Image}
use Rattle.v7_layout.specs.declared.inode.Inode.{Inode}
use Rattle.v7_layout.specs.Numbers.{field}
use Rattle.v7_map.specs.Image.{sector_at, inode_at}
use Rattle.v7_map.specs.Frame.{Place, Body, Single, head_of, place_of, address_of, frame, listed}
use Rattle.v7_map.specs.Weak.{IsWeak}
use Rattle.v7_map.specs.Stored.{address_within, sector_in, limited}
use Rattle.v7_map.proofs.Ranges.{address-inside}

-- none, whatever a test says
pub cond_none : (b : Bool) → ◌≡◌ {A = ℕ} (cond b 0 0) 0
cond_none true = refl
cond_none false = refl

-- an address of the store is taken as it is, and so is none
pub within-stays : (sectors a : ℕ) → a < sectors → address_within sectors a ≡ a
within-stays sectors a lt z = cond (lt-ltb a sectors lt z) a 0

pub within-none : (sectors a : ℕ) → a ≡ 0 → address_within sectors a ≡ 0
within-none sectors a none = ap (address_within sectors) none ∙ cond_none (ltb 0 sectors)

pub within-below : (sectors a : ℕ) → address_within sectors a ≢ 0 → address_within sectors a < sectors
within-below sectors a some = ⊎_elim
    (λ (lt : a < sectors). subst (λ z. z < sectors) (sym (within-stays sectors a lt)) lt)
    (λ (ge : sectors ≤ a). absurd (some (λ z. cond (le-ltb a sectors ge z) a 0)))
    (cases_lt a sectors)

-- what was found of an address stands in the store
pub within-found : {sectors count found : ℕ} (a : ℕ) → found ≡ address_within sectors a → sectors ≡ count → found ≢ 0 → found < count
within-found {sectors} {count} {found} a is same some = subst (λ n. found < n) same (subst (λ n. n < sectors) (sym is) (within-below sectors a (λ none. some (is ∙ none))))

-- what stands in a block of addresses
pub listed-some : (image : Image) (block n : ℕ) → block ≢ 0 → listed image block n ≡ field (sector_at image block) (4 * n) 4
listed-some image block n some z = cond (ne_eqb block 0 some z) 0 (field (sector_at image block) (4 * n) 4)

module _ (image : Image) (n : Inode) (k : ℕ) where
  -- one of the first ten
  pub sector_in-direct : k < 10 → sector_in image n k ≡ address_within (length image) (get_or n.direct k 0)
  unfolding sector_in
  sector_in-direct lt z = address_within (length image) (cond (lt-ltb k 10 lt z) (get_or n.direct k 0) (cond (ltb k 138) (listed image (address_within (length image) n.single) (k - 10)) 0))

  -- one of the next 128
  pub sector_in-single : 10 ≤ k → k < 138 → sector_in image n k ≡ address_within (length image) (listed image (address_within (length image) n.single) (k - 10))
  unfolding sector_in
  sector_in-single low high z = address_within (length image) (cond (le-ltb k 10 low z) (get_or n.direct k 0) (cond (lt-ltb k 138 high z) (listed image (address_within (length image) n.single) (k - 10)) 0))

  -- past these
  pub sector_in-past : 138 ≤ k → sector_in image n k ≡ 0
  unfolding sector_in
  sector_in-past high =
      (λ z. address_within (length image) (cond (le-ltb k 10 (omega arith) z) (get_or n.direct k 0) (cond (le-ltb k 138 high z) (listed image (address_within (length image) n.single) (k - 10)) 0)))
      ∙ within-none (length image) 0 refl

  -- without an indirect block
  pub sector_in-no_single : 10 ≤ k → address_within (length image) n.single ≡ 0 → sector_in image n k ≡ 0
  sector_in-no_single low none = ⊎_elim
      (λ (high : k < 138). sector_in-single low high ∙ within-none (length image) _ (ap (λ b. listed image b (k - 10)) none))
      (λ (past : 138 ≤ k). sector_in-past past)
      (cases_lt k 138)

  -- where there is one, it is a sector of the image
  pub sector_in-within : sector_in image n k ≢ 0 → sector_in image n k < length image
  unfolding sector_in
  sector_in-within some = within-below (length image) _ some

-- in an image that can be mended
module _ (image : Image) (weak : IsWeak (frame image)) (i : ℕ) (used : not ((inode_at image i).mode == 0) ≡ true) where
  place-is : (p : Place) → (frame image).address i p ≡ place_of image (head_of (inode_at image i)) p
  unfolding frame address_of
  place-is p z = cond (used z) (place_of image (head_of (inode_at image i)) p) 0

  address-stays : (p : Place) → address_within (length image) ((frame image).address i p) ≡ (frame image).address i p
  address-stays p = ⊎_elim
      (λ (none : (frame image).address i p ≡ 0). within-none (length image) _ none ∙ sym none)
      (λ (some : (frame image).address i p ≢ 0). within-stays (length image) _ (address-inside image weak i p some).2)
      (cases_eq ((frame image).address i p) 0)

  single-stays : (inode_at image i).single ≡ address_within (length image) (inode_at image i).single
  single-stays = sym (place-is Single) ∙ sym (address-stays Single) ∙ ap (address_within (length image)) (place-is Single)

  -- the block of each sector of a used inode is where its addresses say
  pub sector_in-address : (k : ℕ) → (frame image).address i (Body k) ≡ sector_in image (inode_at image i) k
  unfolding sector_in
  sector_in-address k =
      sym (address-stays (Body k)) ∙ ap (address_within (length image)) (place-is (Body k))
      ∙ ap (λ (b : ℕ). address_within (length image) (cond (ltb k 10) (get_or (inode_at image i).direct k 0) (cond (ltb k 138) (listed image b (k - 10)) 0))) single-stays

  -- its size is within the limit
  pub limited-same : limited (inode_at image i) ≡ inode_at image i
  unfolding frame
  limited-same =
      let within = (weak.good i used).length in
      let size : min (inode_at image i).size 70656 ≡ (inode_at image i).size = omega arith in
      λ z. record (inode_at image i) { size = size z }
