use Rattle.std.proofs.Common.{rules, arith, ◌≡◌, ◌≢◌, ◌==◌, ◌<◌, ◌∙◌, ◌||◌, ◌&&◌, ℕ, List, true, false, length, get_or, map, sym, ap, subst}
use Rattle.stable.specs.Store.{Image}
use Rattle.stable.proofs.Looking.{no_look, looks_again}
use Rattle.v7_map.specs.Image.{inode_sector}
use Rattle.v7_map.specs.Frame.{frame}
use Rattle.v7_map.specs.Tree.{Tree, tree}
use Rattle.std.specs.Prelude.{replicate}
use Rattle.std.proofs.lemmas.List.{get_or_read, length-replicate}
use Rattle.v7_damage.specs.Marks.{mark_at, is_among}
use Rattle.v7_layout.specs.declared.slot.Slot.{Slot as Stored}
use Rattle.v7_map.proofs.Walks.{walked_reached}
use Rattle.v7_map.proofs.Used.{walked_is_dir}
use Rattle.v7_damage.specs.Tables.{CanRead}
use Rattle.v7_damage.specs.Slots.{seen_slot, names}
use Rattle.v7_damage.specs.Walk.{CanWalk, is_dir_in}
use Rattle.v7_damage.proofs.WalkSteps.{listed_none, listed-within, among-at, kept_more, reached_more, closed_more, first_marked, first_reached, end_walked, dir-numbers, ups_more, ups_walked, no-marks}
use Rattle.v7_damage.proofs.walk.walk.Goals as goal

pub walking-init : goal.walking-init
walking-init g c =
    let S = g.S.Stable in
    let image : Image = S.image c.args.store.now in
    let t : Tree = tree (frame image) in
    let n : ℕ = length c.args.types.now in
    let none : c.in_ok-found.found ≡ replicate n false = search rules in
    record {
      listed = c.in_ok-find_one.ensures.listed (listed_none c.in_ok-found.found c.in_ok-list.list.items n (search rules) (search rules));
      long = c.in_ok-find_one.ensures.length ∙ ap length none ∙ length-replicate n false;
      below = omega arith;
      first = λ tells can. first_marked t (dir-numbers image) c.args.types.now can.types_are c.in_ok-found.found c.find_one.new.found n (search rules) c.in_ok-find_one.ensures.marks;
      reached = λ tells can. first_reached t (dir-numbers image) c.args.types.now can.types_are c.in_ok-found.found c.find_one.new.found n (search rules) c.in_ok-find_one.ensures.marks;
      closed = λ tells can k i lt. absurd (omega arith);
      ups = λ tells can k lt. absurd (omega arith);
      none = c.in_ok-find_one.ensures.marks 0 ∙ (let old : mark_at c.in_ok-found.found 0 ≡ false = ap (λ m. mark_at m 0) none ∙ no-marks n 0 in
          let file : is_dir_in c.args.types.now 0 ≡ false = ap (λ t. t == 4) c.requires.tables.none in
          (λ z. old z || (file z && (2 == 0))));
      tally = λ tells are can was. was;
      room = c.requires.room;
      ups_long = search rules;
      looked = no_look S g.met.S.Stable.clocked c.args.store.now;
    }

pub read_directory-requires : goal.read_directory-requires
read_directory-requires g c =
    let lt : c.walking.next < length c.walking.list.items = search rules in
    let is : c.index-ino.result.now ≡ get_or c.walking.list.items c.walking.next 0 = get_or_read c.walking.list.items c.walking.next _ lt c.index-ino.ensures 0 in
    let within : get_or c.walking.list.items c.walking.next 0 < length c.walking.found = listed-within c.walking.found c.walking.list.items c.walking.next c.walking.invariant.listed lt in
    let long = c.walking.invariant.long in
    let counts = c.requires.tables.slots in
    let starts = c.requires.tables.starts in
    record { stands = subst (λ m. inode_sector c.index-ino.result.now < m) (sym c.walking.invariant.looked.sectors) (c.requires.stand c.index-ino.result.now (omega arith)); counts = omega arith; starts = omega arith }

pub walking-preserved : goal.walking-preserved
walking-preserved g c =
    let S = g.S.Stable in
    let image : Image = S.image c.args.store.now in
    let t : Tree = tree (frame image) in
    let n : ℕ = c.walking.next in
    let i = c.walking.invariant in
    let lt : n < length c.walking.list.items = search rules in
    let d : ℕ = c.index-ino.result.now in
    let is : d ≡ get_or c.walking.list.items n 0 = get_or_read c.walking.list.items n _ lt c.index-ino.ensures 0 in
    let marked : mark_at c.walking.found d ≡ true = i.listed.each d ∙ ap (is_among c.walking.list.items) is ∙ among-at c.walking.list.items n lt in
    let slots : S.tells → CanWalk image c.args.types.now c.args.bodies.now → map seen_slot c.read_directory.new.slots.items ≡ t.slots d =
    (λ tells can. let dir : t.is_dir d ≡ true = walked_is_dir (walked_reached t d (i.reached tells can d marked)) in
    c.in_ok-_sectors.ensures.slots tells (subst (λ (x : Image). CanRead x c.args.bodies.now d) (sym i.looked.image) (can.read d dir)) ∙ ap (λ (x : Image). (frame x).slots d) i.looked.image) in
    let named : (j : ℕ) → mark_at c.find_named.new.found j ≡ (mark_at c.walking.found j || (is_dir_in c.args.types.now j && names c.read_directory.new.slots.items j)) =
    (λ j. c.in_ok-find_named.ensures.marks j ∙ ap (λ (l : List Stored). mark_at c.walking.found j || (is_dir_in c.args.types.now j && names l j)) c.deref.ensures.value) in
    record {
      listed = c.in_ok-find_named.ensures.listed i.listed;
      long = search rules;
      below = let longer = c.in_ok-find_named.ensures.longer in omega arith;
      first = λ tells can dir. kept_more t (dir-numbers image) c.args.types.now can.types_are c.walking.found c.find_named.new.found c.walking.list.items c.find_named.new.list.items n d c.read_directory.new.slots.items named 2 (i.first tells can dir);
      reached = λ tells can. reached_more t (dir-numbers image) c.args.types.now can.types_are c.walking.found c.find_named.new.found c.walking.list.items c.find_named.new.list.items n d c.read_directory.new.slots.items named
          (slots tells can) (i.reached tells can d marked) (i.reached tells can);
      closed = λ tells can. closed_more t (dir-numbers image) c.args.types.now can.types_are c.walking.found c.find_named.new.found c.walking.list.items c.find_named.new.list.items n d c.read_directory.new.slots.items named
          (slots tells can) is lt c.in_ok-find_named.ensures.front (i.closed tells can);
      ups = λ tells can. ups_more t c.walking.ups.items c.walking.list.items c.find_named.new.list.items n d c.up_of.result (let l = i.ups_long in let r = c.requires.ups in let b = listed-within c.walking.found c.walking.list.items n i.listed lt in let long = i.long in omega arith) is lt
          c.in_ok-find_named.ensures.front (c.up_of.ensures t d (ap (map seen_slot) c.deref-in-walking.ensures.value ∙ slots tells can)) (i.ups tells can);
      none = (let file : is_dir_in c.args.types.now 0 ≡ false = ap (λ t. t == 4) c.requires.tables.none in named 0 ∙ (λ z. i.none z || (file z && names c.read_directory.new.slots.items 0)));
      tally = λ tells are can was. c.note_read.ensures.read (frame image) are (ap (map seen_slot) c.deref-in-walking-2.ensures.value ∙ slots tells can) (i.tally tells are can was);
      room = c.note_read.ensures.room;
      ups_long = search rules;
      looked = looks_again S g.met.S.Stable.clocked i.looked c.in_ok-_sectors.ensures.looked;
    }

pub returns-clause-walked : goal.returns-clause-walked
returns-clause-walked g c = λ tells can.
    let S = g.S.Stable in
    let image : Image = S.image c.args.store.now in
    let i = c.walking.invariant in
    let all = end_walked (tree (frame image)) (dir-numbers image) c.walking.found c.walking.list.items i.listed c.walking.next (search rules) (i.first tells can) (i.reached tells can) (i.closed tells can) in
    record { marks = all; up = ups_walked (tree (frame image)) c.walking.found c.walking.list.items c.walking.ups.items c.walking.next (search rules) i.listed (i.ups tells can) all }

pub index_mut-requires : goal.index_mut-requires
index_mut-requires g c =
    let i = c.walking.invariant in
    let lt : c.walking.next < length c.walking.list.items = search rules in
    let is : c.index-ino.result.now ≡ get_or c.walking.list.items c.walking.next 0 = get_or_read c.walking.list.items c.walking.next _ lt c.index-ino.ensures 0 in
    let within = listed-within c.walking.found c.walking.list.items c.walking.next i.listed lt in
    let long = i.long in let ups = i.ups_long in let all = c.requires.ups in
    let below : c.index-ino.result.now < length c.walking.ups.items = omega arith in
    search rules

pub note_read-requires : goal.note_read-requires
note_read-requires g c =
    let i = c.walking.invariant in
    let d : ℕ = c.index-ino.result.now in
    let lt : c.walking.next < length c.walking.list.items = search rules in
    let is : d ≡ get_or c.walking.list.items c.walking.next 0 = get_or_read c.walking.list.items c.walking.next _ lt c.index-ino.ensures 0 in
    let within : get_or c.walking.list.items c.walking.next 0 < length c.walking.found = listed-within c.walking.found c.walking.list.items c.walking.next i.listed lt in
    let marked : mark_at c.walking.found d ≡ true = i.listed.each d ∙ ap (is_among c.walking.list.items) is ∙ among-at c.walking.list.items c.walking.next lt in
    let some : d ≢ 0 = (λ z. let no : mark_at c.walking.found d ≡ false = ap (mark_at c.walking.found) z ∙ i.none in let clash : true ≡ false = sym marked ∙ no in absurd (cc)) in
    record { some = omega (arith, some); within = omega (arith, is, within, i.long); room = i.room }
