use Rattle.std.proofs.Common.{◌≡◌, ◌∙◌, Bool, List, length, ap, sym, subst, ⊎_elim, rules}
use Rattle.nvram_map.specs.declared.board.BoardEntry.{BoardEntry}
use Rattle.presto_cache.specs.Cache.{slots_of, Knows}
use Rattle.presto_cache.specs.Made.{IsMadeOf}
use Rattle.presto_unit.proofs.Runs.{knows_same}
use Rattle.presto_recover.specs.Boards.{IsLoss, found_in}
use Rattle.presto_recover.specs.Refused.{name_bytes}
use Rattle.presto_recover.proofs.Counted.{cache_counts, found_entries}
use Rattle.presto_recover.proofs.Emptied.{finds_none}
use Rattle.presto_recover.proofs.Formatting.{formats_looked}
use Rattle.presto_recover.proofs.Reasons.{reason_before, named_by, board_moved}
use Rattle.presto_recover.proofs.Recovering.{formats_disk}
use Rattle.presto_recover.proofs.preparing.prepare_named.Goals as goal

pub check_name-requires-clause-name : goal.check_name-requires-clause-name
check_name-requires-clause-name g c tells =
    c.requires.name tells ∙ ap name_bytes (sym (formats_disk g.R.Rig g.met.R.Rig.clocked c.args.accept_loss c.find_board.ensures.formats tells))

pub check_name-requires-clause-board : goal.check_name-requires-clause-board
check_name-requires-clause-board g c tells =
    let r = g.R.Rig in
    board_moved (r.sizes c.args.rig.now) (r.sizes c.find_board.new.rig) (r.contents c.args.rig.now) (r.contents c.find_board.new.rig) c.find_board.ensures.formats.sizes
    (formats_disk r g.met.R.Rig.clocked c.args.accept_loss c.find_board.ensures.formats tells) (c.in_ok-found.ensures.found.board_is tells)

pub returns-in-Err-clause-refused : goal.returns-in-Err-clause-refused
returns-in-Err-clause-refused g c =
    let found = c.in_ok-found.ensures.found in
    ⊎_elim
    (λ lost. absurd (c.in-Err.ensures.needed (finds_none c.in_ok-found.found.board.entries (slots_of c.in_ok-cache.cache) 1 (found.empty lost.0) c.in_ok-cache.ensures.slots)))
    (λ kept. reason_before g.R.Rig c.args.accept_loss c.check_name.new.rig c.find_board.ensures.formats.sizes (found.kept ∙ sym kept.1) (found.same kept.0) c.find_board.ensures.formats.later c.in-Err.fault (c.in-Err.ensures.refused c.args.accept_loss))
    found.loss

pub returns-in-Err-clause-formats : goal.returns-in-Err-clause-formats
returns-in-Err-clause-formats g c = formats_looked g.R.Rig g.met.R.Rig.clocked c.args.accept_loss c.find_board.ensures.formats c.check_name.ensures.looked

pub returns-clause-prepared : goal.returns-clause-prepared
returns-clause-prepared g c =
    let law = g.met.R.Rig in
    let r = g.R.Rig in
    let old = c.args.rig.now in
    let mid = c.find_board.new.rig in
    let found = c.in_ok-found.ensures.found in
    let cache = c.in_ok-cache.cache in
    let looked = c.check_name.ensures.looked in
    let knows : Knows r mid cache = search rules in
    let entries : r.tells → c.in_ok-found.found.board.entries ≡ found_in (r.contents old) = λ tells. found_entries (r.contents old) (r.contents mid) c.in_ok-found.found.board.entries c.in_ok-found.found.lost (r.is_kept old) c.args.accept_loss (found.read tells).read found.loss (law.kept_told old tells) found.empty found.same in
    record {
      sectors = c.requires.sectors;
      accepted_as = λ tells. record {
        sectors = c.requires.sectors;
        loss = subst (λ (k : Bool). IsLoss c.in_ok-found.found.lost k c.args.accept_loss) (sym (law.kept_told old tells)) found.loss;
        named = λ kept. named_by (r.sizes old) (r.contents old) (r.contents mid) (found.same kept) (found.board_is tells) (c.in-Ok.ensures.same tells);
      };
      loss = found.loss;
      has_found = record {
        made = λ tells. subst (λ (es : List BoardEntry). IsMadeOf es (slots_of cache)) (entries tells) c.in_ok-cache.ensures.slots;
        by_index = c.in_ok-cache.ensures.order;
        number = λ tells. cache_counts cache (r.contents mid) (knows.is tells) c.in_ok-cache.ensures.sure ∙ ap length (sym (found.read tells).read ∙ entries tells);
      };
      knows = knows_same r looked.contents looked.sizes looked.is_kept knows;
      changes = c.in_ok-changes.ensures;
    }

pub returns-clause-formats : goal.returns-clause-formats
returns-clause-formats g c = formats_looked g.R.Rig g.met.R.Rig.clocked c.args.accept_loss c.find_board.ensures.formats c.check_name.ensures.looked
