-- The tests of directories, one after the other.
use Rattle.std.proofs.Common.{◌≡◌, ℕ, suc, ◌+◌, ◌-◌, ◌/◌, ◌<◌, ◌≤◌, Bool, true, false, cond, List, [], ◌∷◌, ◌++◌, map, drop, length, append-nil, sym, ap, subst, ◌∙◌, arith}
use Rattle.std.specs.List.{range_with_len, flat_map}
use Rattle.std.proofs.lemmas.List.{drop_all, take_all}
use Rattle.std.proofs.lemmas.List.FromFn.{length-map-range_with_len}
use Rattle.stable.specs.Store.{Image}
use Rattle.v7_map.specs.Image.{inode_at}
use Rattle.v7_map.specs.Frame.{Frame, head_of, frame, slot_in, slots_of}
use Rattle.v7_map.specs.Tree.{Tree, tree, is_walked, seen_in}
use Rattle.v7_map.specs.Damage.{Test, Dots, directory_tests, slot_tests}
use Rattle.v7_map.proofs.SlotLists.{flat_more}
use Rattle.v7_damage.specs.declared.damage.RepairFault.{RepairFault}
use Rattle.v7_damage.specs.declared.damage.RepairFault.TheVariants.{Damaged, Failed, NoMemory}
use Rattle.v7_damage.specs.declared.bodies.Bodies.{Bodies}
use Rattle.v7_damage.specs.Tables.{CanRead}
use Rattle.v7_damage.specs.Names.{tests_of_slots, tests_of_directory, tests_of_directories, slots_until, HasKept, AreCounts, AreNamed}
use Rattle.v7_damage.specs.Tests.{first_failing, told, IsFaultTold, IsNoDamage}
use Rattle.v7_damage.proofs.InodeTests.{told_more}

pub dir_none : (t : Tree) (d : ℕ) → is_walked t d ≡ false → tests_of_directory t d ≡ []
unfolding tests_of_directory
dir_none t d other = ap (λ b. cond b (Dots d ∷ flat_map (slot_tests t d) (range_with_len 0 (length (t.slots d)))) []) other

pub dir_some : (t : Tree) (d : ℕ) → is_walked t d ≡ true → tests_of_directory t d ≡ Dots d ∷ tests_of_slots t d 0 (length (t.slots d))
unfolding tests_of_directory tests_of_slots
dir_some t d walks = ap (λ b. cond b (Dots d ∷ flat_map (slot_tests t d) (range_with_len 0 (length (t.slots d)))) []) walks

pub dirs_more : (t : Tree) (d n : ℕ) → d < n → tests_of_directories t d (n - d) ≡ tests_of_directory t d ++ tests_of_directories t (d + 1) (n - (d + 1))
unfolding tests_of_directories tests_of_directory
dirs_more t d n lt = let e : n - d ≡ suc (n - (d + 1)) = omega arith in ap (λ m. flat_map (directory_tests t) (range_with_len d m)) e

pub dirs_end : (t : Tree) (d m : ℕ) → m ≡ 0 → tests_of_directories t d m ≡ []
unfolding tests_of_directories
dirs_end t d m e = ap (λ m. flat_map (directory_tests t) (range_with_len d m)) e

-- ---- what is kept of the slots

until-next : (t : Tree) (n d : ℕ) → 1 ≤ d → slots_until t n (d + 1) 0 ≡ flat_map (seen_in t n) (range_with_len 1 (d - 1)) ++ seen_in t n d
unfolding slots_until
until-next t n d low =
    let e : (d + 1) - 1 ≡ suc (d - 1) = omega arith in
    let back : 1 + (d - 1) ≡ d = omega arith in
    ap (λ l. flat_map (seen_in t n) (range_with_len 1 ((d + 1) - 1)) ++ l) (drop_all n [] (omega arith)) ∙ append-nil (flat_map (seen_in t n) (range_with_len 1 ((d + 1) - 1)))
    ∙ ap (λ m. flat_map (seen_in t n) (range_with_len 1 m)) e ∙ flat_more (seen_in t n) 1 (d - 1) ∙ ap (λ j. flat_map (seen_in t n) (range_with_len 1 (d - 1)) ++ seen_in t n j) back

pub until-walked : (t : Tree) (n d : ℕ) → 1 ≤ d → is_walked t d ≡ true → slots_until t n (d + 1) 0 ≡ slots_until t n d (length (t.slots d))
unfolding slots_until
until-walked t n d low walks =
    until-next t n d low ∙ ap (λ b. flat_map (seen_in t n) (range_with_len 1 (d - 1)) ++ cond b (drop n (t.slots d)) []) walks
    ∙ ap (λ l. flat_map (seen_in t n) (range_with_len 1 (d - 1)) ++ drop n l) (sym (take_all (length (t.slots d)) (t.slots d) (omega arith)))

pub until-other : (t : Tree) (n d : ℕ) → 1 ≤ d → is_walked t d ≡ false → slots_until t n (d + 1) 0 ≡ slots_until t n d 0
unfolding slots_until
until-other t n d low other =
    until-next t n d low ∙ ap (λ b. flat_map (seen_in t n) (range_with_len 1 (d - 1)) ++ cond b (drop n (t.slots d)) []) other
    ∙ ap (λ l. flat_map (seen_in t n) (range_with_len 1 (d - 1)) ++ l) (sym (drop_all n [] (omega arith)))

module _ (f : Frame) (types counts : List ℕ) (named : List Bool) (d : ℕ) (low : 1 ≤ d) where
  pub kept_walked : (n : ℕ) → n ≡ length (f.slots d) → is_walked (tree f) d ≡ true → HasKept f types counts named d n → HasKept f types counts named (d + 1) 0
  kept_walked n is walks was = record {
    types_are = was.types_are;
    counts_are = subst (AreCounts counts) (ap (slots_until (tree f) 0 d) is ∙ sym (until-walked (tree f) 0 d low walks)) was.counts_are;
    named_are = subst (AreNamed types named) (ap (slots_until (tree f) 2 d) is ∙ sym (until-walked (tree f) 2 d low walks)) was.named_are;
  }

  pub kept_other : is_walked (tree f) d ≡ false → HasKept f types counts named d 0 → HasKept f types counts named (d + 1) 0
  kept_other other was = record {
    types_are = was.types_are;
    counts_are = subst (AreCounts counts) (sym (until-other (tree f) 0 d low other)) was.counts_are;
    named_are = subst (AreNamed types named) (sym (until-other (tree f) 2 d low other)) was.named_are;
  }

-- ---- what is told

pub told_first : (f : Frame) (ts us all : List Test) (e : RepairFault) → first_failing f all ≡ first_failing f (ts ++ us) → IsFaultTold f ts e → IsFaultTold f all e
told_first f ts us all (Damaged sector which) same is = ap (told f) same ∙ told_more f ts us (sector, which) is
told_first f ts us all Failed same is = tt
told_first f ts us all NoMemory same is = tt

pub told_nothing : (f : Frame) (ts : List Test) (e : RepairFault) → IsNoDamage e → IsFaultTold f ts e
told_nothing f ts (Damaged sector which) is = absurd is
told_nothing f ts Failed is = tt
told_nothing f ts NoMemory is = tt

-- a directory that can be read has at most 4,416 slots
pub few-slots : (image : Image) (bodies : Bodies) (i : ℕ) → CanRead image bodies i → length ((frame image).slots i) ≤ 4416
unfolding frame slots_of
few-slots image bodies i can =
    let few = can.size in
    let all : length ((frame image).slots i) ≡ (inode_at image i).size / 16 =
    ap (λ b. length (cond b (map (slot_in image (head_of (inode_at image i))) (range_with_len 0 ((inode_at image i).size / 16))) [])) can.dir
    ∙ length-map-range_with_len (slot_in image (head_of (inode_at image i))) 0 ((inode_at image i).size / 16) in
    omega arith
