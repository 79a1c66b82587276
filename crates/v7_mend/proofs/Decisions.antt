-- An inode is settled, as its block of addresses is read.
use Rattle.std.proofs.Common.{◌≡◌, ◌≢◌, ℕ, ◌-◌, ◌^◌, ◌<◌, Bool, true, false, cond, not, ◌==◌, ◌&&◌, ◌||◌, List, length, take, replicate, All, sym, ap, ◌∙◌, arith, ⊎_elim, ltb, leb, eq-eqb}
use Rattle.std.proofs.lemmas.Bool.{cases_eq, cases_Bool, ne_eqb, le-ltb}
use Rattle.std.proofs.lemmas.List.Elements.{All-append, All-take, All-replicate}
use Rattle.v7_layout.specs.declared.inode.Inode.{Inode}
use Rattle.files_model.specs.Files.{sectors_of}
use Rattle.stable.specs.Store.{Image}
use Rattle.v7_map.specs.Image.{sector_at}
use Rattle.v7_mend.specs.Settled.{direct_below, free_inode, settled_inode, holds_below, holds_in}
use Rattle.v7_mend.specs.Settles.{MapStands}
use Rattle.v7_mend.specs.Trims.{has_map, map_within}
use Rattle.v7_mend.proofs.Mapping.{chosen, leb_false}

pub direct_fit : (n : ℕ) (direct : List ℕ) → All (λ address. address < 2 ^ 24) direct → All (λ address. address < 2 ^ 24) (direct_below n direct)
unfolding direct_below
direct_fit n direct fit = All-append (λ (address : ℕ). address < 2 ^ 24) (take n direct) (replicate (10 - n) 0)
    (All-take (λ (address : ℕ). address < 2 ^ 24) n direct fit) (All-replicate (λ (address : ℕ). address < 2 ^ 24) (10 - n) 0 (omega arith))

-- what decides only where the inode is used and has names
pub settled_same : (n : Inode) (count : ℕ) (a b : Bool) → ((n.mode == 0) ≡ false → count ≢ 0 → a ≡ b) → settled_inode n count a ≡ settled_inode n count b
unfolding settled_inode
settled_same n count a b h = ⊎_elim
    (λ (free : (n.mode == 0) ≡ true). (λ z. cond (free z) n (cond (count == 0) (free_inode n.generation) (record n { nlink = count; direct = direct_below (sectors_of n.size) n.direct; single = cond a n.single 0 })))
    ∙ sym (λ z. cond (free z) n (cond (count == 0) (free_inode n.generation) (record n { nlink = count; direct = direct_below (sectors_of n.size) n.direct; single = cond b n.single 0 }))))
    (λ (used : (n.mode == 0) ≡ false). ⊎_elim
    (λ (none : count ≡ 0). (λ z. cond (n.mode == 0) n (cond (eq-eqb count 0 none z) (free_inode n.generation) (record n { nlink = count; direct = direct_below (sectors_of n.size) n.direct; single = cond a n.single 0 })))
    ∙ sym (λ z. cond (n.mode == 0) n (cond (eq-eqb count 0 none z) (free_inode n.generation) (record n { nlink = count; direct = direct_below (sectors_of n.size) n.direct; single = cond b n.single 0 }))))
    (λ (some : count ≢ 0). ap (λ s. cond (n.mode == 0) n (cond (count == 0) (free_inode n.generation) (record n { nlink = count; direct = direct_below (sectors_of n.size) n.direct; single = cond s n.single 0 }))) (h used some))
    (cases_eq count 0))
    (cases_Bool (n.mode == 0))

module _ (image : Image) (n : Inode) (count sectors : ℕ) (long : length image ≡ sectors) (stands : MapStands image n) where
  pub settled_none : map_within n count sectors ≡ 0 → settled_inode n count false ≡ settled_inode n count (holds_in image n)
  unfolding holds_in
  settled_none none = settled_same n count false (holds_in image n) (λ used some. ⊎_elim
      (λ (z : n.single ≡ 0). sym (λ q. not (eq-eqb n.single 0 z q) && holds_below (sector_at image n.single) (sectors_of n.size)))
      (λ (nz : n.single ≢ 0).
      let at = stands (ap not used) nz in
      let l : ltb n.single 2 ≡ false = le-ltb n.single 2 at.0 in
      let r : leb sectors n.single ≡ false = leb_false sectors n.single (let lt : n.single < length image = at.1 in omega arith) in
      absurd (nz (sym (λ z. cond (used z || (ne_eqb count 0 some z || (l z || r z))) 0 n.single) ∙ none)))
      (cases_eq n.single 0))

  pub settled_some : map_within n count sectors ≢ 0 → (map : ℕ) (block : List ℕ) (stays : Bool) → map ≡ map_within n count sectors → block ≡ sector_at image map → stays ≡ holds_below block (sectors_of n.size)
      → settled_inode n count stays ≡ settled_inode n count (holds_in image n)
  unfolding holds_in
  settled_some some map block stays is read holds =
      let c = chosen (n.mode == 0) (count == 0) (ltb n.single 2) (leb sectors n.single) n.single some in
      let single : map ≡ n.single = is ∙ c.is in
      let nz : (n.single == 0) ≡ false = ne_eqb n.single 0 (λ z. some (c.is ∙ z)) in
      ap (settled_inode n count) (holds ∙ ap (λ b. holds_below b (sectors_of n.size)) (read ∙ ap (sector_at image) single) ∙ (λ z. not (sym nz z) && holds_below (sector_at image n.single) (sectors_of n.size)))

-- what decides may be said with the mode and the links
pub settled_has : (image : Image) (n : Inode) (count : ℕ) → settled_inode n count (holds_in image n) ≡ settled_inode n count (has_map image n count)
settled_has image n count = settled_same n count (holds_in image n) (has_map image n count) (λ used some z. not (sym used z || sym (ne_eqb count 0 some) z) && holds_in image n)
