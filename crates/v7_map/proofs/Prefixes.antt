-- Laws on each prefix of a list of puts.
use Rattle.std.proofs.Common.{◌≡◌, ℕ, zero, suc, List, [], ◌∷◌, ◌++◌, take, set}
use Rattle.stable.specs.Store.{Image}
use Rattle.stable.specs.Puts.{put_all, EachPrefix}

module _ (P : Image → Type 0) where
  pub prefix-first : (puts : List (ℕ × List ℕ)) (image : Image) → EachPrefix P puts image → P image
  prefix-first [] image h = h
  prefix-first (p ∷ ps) image h = h.0

  pub prefix-last : (puts : List (ℕ × List ℕ)) (image : Image) → EachPrefix P puts image → P (put_all puts image)
  prefix-last [] image h = h
  prefix-last (p ∷ ps) image h = prefix-last ps (set image p.0 p.1) h.1

  pub prefix-append : (puts more : List (ℕ × List ℕ)) (image : Image) → EachPrefix P puts image → EachPrefix P more (put_all puts image) → EachPrefix P (puts ++ more) image
  prefix-append [] more image h next = next
  prefix-append (p ∷ ps) more image h next = (h.0, prefix-append ps more (set image p.0 p.1) h.1 next)

  pub prefix-at : (puts : List (ℕ × List ℕ)) (image : Image) → EachPrefix P puts image → (m : ℕ) → P (put_all (take m puts) image)
  prefix-at [] image h zero = h
  prefix-at [] image h (suc m) = h
  prefix-at (p ∷ ps) image h zero = h.0
  prefix-at (p ∷ ps) image h (suc m) = prefix-at ps (set image p.0 p.1) h.1 m

pub prefix-weaker : (P Q : Image → Type 0) → ((image : Image) → P image → Q image) → (puts : List (ℕ × List ℕ)) (image : Image) → EachPrefix P puts image → EachPrefix Q puts image
prefix-weaker P Q f [] image h = f image h
prefix-weaker P Q f (p ∷ ps) image h = (f image h.0, prefix-weaker P Q f ps (set image p.0 p.1) h.1)

pub put_all-append : (puts more : List (ℕ × List ℕ)) (image : Image) → put_all (puts ++ more) image ≡ put_all more (put_all puts image)
put_all-append [] more image = λ _. put_all more image
put_all-append (p ∷ ps) more image = put_all-append ps more (set image p.0 p.1)

-- what holds after any number of puts holds of each prefix
pub prefixes-all : (P : Image → Type 0) (puts : List (ℕ × List ℕ)) (image : Image) → ((m : ℕ) → P (put_all (take m puts) image)) → EachPrefix P puts image
prefixes-all P [] image h = h 0
prefixes-all P (p ∷ ps) image h = (h 0, prefixes-all P ps (set image p.0 p.1) (λ m. h (suc m)))
