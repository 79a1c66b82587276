use Rattle.std.proofs.Common.{arith, ◌≡◌, ◌<◌, ◌∷◌, [], List, ℕ, None, Some, get_or, length, map, slice_get, refl, sym, ap, subst}
use Rattle.std.proofs.lemmas.List.{length-append}
use Rattle.presto_unit.specs.declared.presto.Presto.{Presto}
use Rattle.volume.specs.declared.mounted.Volume.{Volume}
use Rattle.rig.specs.declared.host.HostFault.TheVariants as fault
use Rattle.run_lines.specs.declared.naming.Named.{Named}
use Rattle.run_lines.proofs.Sayings.{said_none}
use Rattle.server_volumes.specs.Obstacles.{NoRig}
use Rattle.server_volumes.specs.Opens.{OpensAll, OpensSome}
use Rattle.server_volumes.proofs.Givens.{given_none, item_at, item_read, opens_none, opens_more, opens_some}
use Rattle.server_volumes.proofs.together.open_all.Goals as goal

-- what a read past the end gives
abbrev nothing : Named
nothing = record { word = record { ref_ptr = (0, 0); now = [] }; disk = record { ref_ptr = (0, 0); now = [] }; board = None }

pub returns-in_default-clause-refused : goal.returns-in_default-clause-refused
returns-in_default-clause-refused g c =
    let h = g.H.Host in
    let say = g.H.Say in
    let r = g.H.R.Rig in
    let host = c.args.host.now in
    let words = map (λ (named : Named). named.word.now) c.args.asked.now in
    let some = c.requires.some in
    let first = item_at (λ (named : Named). named.word.now) c.args.asked.now 0 (omega (arith, some)) in
    subst (λ (volumes : List (Volume (Presto g.row.H-R.Denot r))). OpensSome h say r c.args.options words host host volumes [] c.no_memory.result) (sym c.new.ensures.items) (record {
      mid = host;
      opens = opens_none h say r c.args.options host;
      word = first.0;
      next = first.1;
      none = record {
        obstacle = NoRig first.0 fault.NoMemory;
        refuses = c.no_memory.ensures;
        of_word = refl;
        rigs = [];
        given = given_none h;
        hinders = tt;
        host = λ is. absurd (omega (arith, is));
        said = said_none say;
      };
    })

pub loop-named-init : goal.loop-named-init
loop-named-init g c =
    let made = c.in-Ok.ensures in
    record {
      opens = subst (λ volumes. OpensAll g.H.Host g.H.Say g.H.R.Rig c.args.options c.args.host.now c.args.host.now volumes) (sym made.items) (opens_none g.H.Host g.H.Say g.H.R.Rig c.args.options c.args.host.now);
      count = ap length made.items;
      room = made.capacity;
    }

pub loop-named-preserved : goal.loop-named-preserved
loop-named-preserved g c =
    let at = c.loop-named in
    let pushed = c.push_reserved.ensures in
    let more = at.volumes.items in
    let counted = at.invariant.count in
    let longer = length-append more (c.in-Ok-open_one.volume ∷ []) in
    let same = ap length pushed.items in
    let number : c.len.result ≡ length more = (let counted = c.len.ensures in let whole = at.volumes.ok in omega (arith, counted, whole)) in
    record {
      opens = subst (λ volumes. OpensAll g.H.Host g.H.Say g.H.R.Rig c.args.options c.args.host.now c.open_one.new.host volumes) (sym pushed.items)
          (opens_more g.H.Host g.H.Say g.H.R.Rig c.args.options more c.in-Ok-open_one.volume c.len.result number at.invariant.opens c.in-Ok-open_one.ensures.opened);
      count = omega (arith, counted, longer, same);
      room = (let room = at.invariant.room in let keeps = pushed.capacity in omega (arith, room, keeps));
    }

pub returns-in-Err-clause-refused : goal.returns-in-Err-clause-refused
returns-in-Err-clause-refused g c =
    let at = c.loop-named in
    let more = at.volumes.items in
    let counted = at.invariant.count in
    let length_is = c.len.ensures in
    let whole = at.volumes.ok in
    let number : c.len.result ≡ length more = omega (arith, length_is, whole) in
    let place : at.named-index ≡ c.len.result = omega (arith, number, counted) in
    let within : at.named-index < length c.args.asked.now = let lt = c.loop-named-test.true in omega (arith, lt) in
    let words = map (λ (named : Named). named.word.now) c.args.asked.now in
    opens_some g.H.Host g.H.Say g.H.R.Rig c.args.options words more c.len.result number at.invariant.opens c.in-Err.ensures.refused
    (subst (λ (n : ℕ). slice_get words n ≡ Some (get_or c.args.asked.now at.named-index nothing).word.now) place (item_read (λ (named : Named). named.word.now) c.args.asked.now at.named-index within nothing))
