use Rattle.std.proofs.Common.{◌≡◌, ℕ, suc, ◌+◌, ◌-◌, ◌*◌, ◌<◌, ◌≤◌, List, ◌++◌, length, take, drop, get_or, sym, ap, ◌∙◌, arith}
use Rattle.std.proofs.Math.Nat.{mul-suc}
use Rattle.std.proofs.lemmas.List.{drop-drop, flat_map_more, take_more}
use Rattle.std.specs.List.{flat_map}
use Rattle.byteorder.specs.Endian.{little_bytes}
use Rattle.v7_layout.proofs.fields.put_addresses.Goals as goal

-- one number more is written
one_more : (n at k : ℕ) (now before first numbers : List ℕ) → k < length numbers
    → take (at + n * k + n) now ≡ take (at + n * k) before ++ little_bytes n (get_or numbers k 0)
    → take (at + n * k) before ≡ first ++ flat_map (little_bytes n) (take k numbers)
    → take (at + n * (k + 1)) now ≡ first ++ flat_map (little_bytes n) (take (k + 1) numbers)
one_more n at k now before first numbers lt e so_far =
    let x : ℕ = get_or numbers k 0 in
    let one : k + 1 ≡ suc k = omega arith in
    let next : at + n * (k + 1) ≡ at + n * k + n = ap (λ (j : ℕ). at + n * j) one ∙ ap (λ (j : ℕ). at + j) (mul-suc n k) ∙ omega arith in
    ap (λ (j : ℕ). take j now) next
    ∙ e
    ∙ ap (λ (l : List ℕ). l ++ little_bytes n x) so_far
    ∙ flat_map_more (little_bytes n) first (take k numbers) x
    ∙ ap (λ (l : List ℕ). first ++ flat_map (little_bytes n) l) (sym (take_more numbers k 0 lt))

-- what is the same past a place is so further on
further : (a b : ℕ) (xs ys : List ℕ) → a ≤ b → drop a xs ≡ drop a ys → drop b xs ≡ drop b ys
further a b xs ys h e =
    let split : a + (b - a) ≡ b = omega arith in
    ap (λ (j : ℕ). drop j xs) (sym split)
    ∙ sym (drop-drop (b - a) a xs)
    ∙ ap (drop (b - a)) e
    ∙ drop-drop (b - a) a ys
    ∙ ap (λ (j : ℕ). drop j ys) split

pub loop-k-preserved : goal.loop-k-preserved
loop-k-preserved c = (
  one_more 3 c.args.at c.loop-k.k c.put_address.new.bytes c.loop-k.bytes (take c.args.at c.args.bytes.now) c.args.addresses.now
      (omega arith) c.put_address.ensures.put.front c.loop-k.invariant.0,
  further (c.args.at + 3 * c.loop-k.k + 3) (c.args.at + 30) c.put_address.new.bytes c.loop-k.bytes (omega arith) c.put_address.ensures.put.rest
      ∙ c.loop-k.invariant.1,
)
