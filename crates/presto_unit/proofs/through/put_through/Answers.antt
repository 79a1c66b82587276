use Rattle.std.proofs.Common.{◌≡◌, arith, ◌∙◌, refl, sym, ap, set, get_or, [], List, ℕ, inr, ⊎_elim}
use Rattle.std.proofs.lemmas.List.{get_or-set_same, set-set}
use Rattle.stable.proofs.Clocked.{weaker, ends}
use Rattle.rig.specs.Devices.{Devices}
use Rattle.nvram_map.specs.Overlay.{overlay}
use Rattle.presto_cache.specs.Board.{PutsOnBoard}
use Rattle.presto_cache.specs.Slots.{at, sector_of, find_in}
use Rattle.presto_cache.specs.declared.slot.Slot.{Slot}
use Rattle.presto_cache.proofs.Known.{known_at}
use Rattle.presto_cache.proofs.Places.{entry_found}
use Rattle.presto_cache.proofs.Puts.{now_put}
use Rattle.presto_cache.proofs.Runs.{on_ok, puts_at}
use Rattle.presto_cache.proofs.Writing.{written_image, write_step}
use Rattle.presto_unit.proofs.Disk.{board_with_room, disk_with_room}
use Rattle.presto_unit.proofs.Entries.{none_left}
use Rattle.presto_unit.proofs.Runs.{knows_written, puts_on}
use Rattle.presto_unit.proofs.through.put_through.Goals as goal

pub returns-in_err-write-clause-knows : goal.returns-in_err-write-clause-knows
returns-in_err-write-clause-knows g c =
    let law = g.met.R.Rig in
    knows_written g.R.Rig law.clocked law.shape law.kept_told law.board c.args.sector _ c.write.ensures.sizes c.write.ensures.is_kept c.write.ensures.crash c.requires.knows

pub returns-in_err-write-clause-crash : goal.returns-in_err-write-clause-crash
returns-in_err-write-clause-crash g c =
    let law = g.met.R.Rig in
    let s = c.args.sector in
    weaker c.write.ensures.crash (λ d left cut. disk_with_room s (write_step (known_at g.R.Rig law.clocked law.shape law.kept_told law.board c.requires.knows (law.clocked.told _ _ d left)) s c.args.bytes.now d cut))

pub returns-in-None-clause-crash : goal.returns-in-None-clause-crash
returns-in-None-clause-crash g c =
    let law = g.met.R.Rig in
    let s = c.args.sector in
    weaker c.write.ensures.crash (λ d left cut. disk_with_room s (write_step (known_at g.R.Rig law.clocked law.shape law.kept_told law.board c.requires.knows (law.clocked.told _ _ d left)) s c.args.bytes.now d cut))

pub returns-in-None-clause-done : goal.returns-in-None-clause-done
returns-in-None-clause-done g c =
    let law = g.met.R.Rig in
    let s = c.args.sector in
    let bytes = c.args.bytes.now in
    let x = g.R.Rig.contents c.args.rig.now in
    record {
      stands = λ tells. ap (λ (d : Devices). get_or d.disk s []) (c.in_ok-write.ensures.done tells)
          ∙ get_or-set_same x.disk s bytes [] (let known = known_at g.R.Rig law.clocked law.shape law.kept_told law.board c.requires.knows tells in omega (arith, c.requires.sector, known.shape.disk));
      free = sym c.in-None.ensures;
      image = λ tells. written_image (known_at g.R.Rig law.clocked law.shape law.kept_told law.board c.requires.knows tells) s bytes (sym c.in-None.ensures) _ (c.in_ok-write.ensures.done tells);
    }

pub clear_or_put_last-requires-clause-dirty : goal.clear_or_put_last-requires-clause-dirty
clear_or_put_last-requires-clause-dirty g c =
    let there = entry_found c.args.cache.now.slots.items c.args.sector c.in-Some.index (sym c.in-Some.ensures) in
    record { within = there.0; dirty = there.1 }

pub returns-in-Some-clause-crash : goal.returns-in-Some-clause-crash
returns-in-Some-clause-crash g c =
    let law = g.met.R.Rig in
    let r = g.R.Rig in
    let x = r.contents c.args.rig.now in
    let slots = c.args.cache.now.slots.items in
    let s = c.args.sector in
    let bytes = c.args.bytes.now in
    let i = c.in-Some.index in
    let there = entry_found slots s i (sym c.in-Some.ensures) in
    let mid = c.write.new.self in
    let disk : r.tells → get_or (r.contents mid).disk (sector_of (at slots i)) [] ≡ bytes = λ tells.
    ap (λ (d : Devices). get_or d.disk (sector_of (at slots i)) []) (c.in_ok-write.ensures.done tells)
    ∙ ap (λ (n : ℕ). get_or (set x.disk s bytes) n []) there.2
    ∙ get_or-set_same x.disk s bytes [] (let known = known_at r law.clocked law.shape law.kept_told law.board c.requires.knows tells in omega (arith, c.requires.sector, known.shape.disk)) in
    puts_on r law.clocked s s bytes c.write.ensures.sizes
    (weaker c.write.ensures.crash (λ d left cut. disk_with_room s (write_step (known_at r law.clocked law.shape law.kept_told law.board c.requires.knows (law.clocked.told _ _ d left)) s bytes d cut)))
    (weaker c.clear_or_put_last.ensures.crash (λ d left put. board_with_room s (puts_at PutsOnBoard refl there.2 (disk (law.clocked.told _ _ d left)) put)))

pub returns-in-Some-clause-done : goal.returns-in-Some-clause-done
returns-in-Some-clause-done g c =
    let law = g.met.R.Rig in
    let r = g.R.Rig in
    let x = r.contents c.args.rig.now in
    let cache = c.args.cache.now in
    let slots = cache.slots.items in
    let s = c.args.sector in
    let bytes = c.args.bytes.now in
    let i = c.in-Some.index in
    let there = entry_found slots s i (sym c.in-Some.ensures) in
    let mid = c.write.new.self in
    let disk : (n : ℕ) → n ≡ s → r.tells → get_or (r.contents mid).disk n [] ≡ bytes = λ n is tells.
    ap (λ (d : Devices). get_or d.disk n []) (c.in_ok-write.ensures.done tells)
    ∙ ap (λ (k : ℕ). get_or (set x.disk s bytes) k []) is
    ∙ get_or-set_same x.disk s bytes [] (let known = known_at r law.clocked law.shape law.kept_told law.board c.requires.knows tells in omega (arith, c.requires.sector, known.shape.disk)) in
    on_ok (λ cleared. record {
      stands = λ tells. ap (λ (l : List (List ℕ)). get_or l s []) (ends law.clocked c.clear_or_put_last.ensures.crash tells).disk ∙ disk s refl tells;
      free = ap (λ (l : List Slot). find_in l s) cleared.became.slots ∙ none_left cache.buffers slots s i cache.are (sym c.in-Some.ensures);
      image = λ tells. cleared.image tells
          ∙ ap (λ (y : List ℕ). set (overlay (r.contents mid)) (sector_of (at slots i)) y) (disk (sector_of (at slots i)) there.2 tells)
          ∙ ap (λ (n : ℕ). set (overlay (r.contents mid)) n bytes) there.2
          ∙ ⊎_elim (λ same. ap (λ (l : List (List ℕ)). set l s bytes) same) (λ new. ap (λ (l : List (List ℕ)). set l s bytes) new ∙ set-set (overlay x) s bytes bytes)
          (now_put (write_step (known_at r law.clocked law.shape law.kept_told law.board c.requires.knows tells) s bytes _ (inr (c.in_ok-write.ensures.done tells))).puts);
    })
    c.clear_or_put_last.result c.clear_or_put_last.ensures.done
