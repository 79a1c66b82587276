use Rattle.std.proofs.Common.{arith, ◌≡◌, ◌∙◌, ℕ, [], length, refl, ap, subst}
use Rattle.std.proofs.lemmas.Option.{slice_get_read}
use Rattle.datagrams.specs.declared.datagram.Datagram.{Datagram as Meaning}
use Rattle.datagrams.specs.Meaning.{meaning}
use Rattle.volume.specs.Mounted.{store_of}
use Rattle.volume.specs.Rests.{Rests}
use Rattle.nfs_worker.specs.Answers.{Answers}
use Rattle.std.specs.Prelude.{slice_set}
use Rattle.nfs_worker.specs.Turns.{place_of}
use Rattle.nfs_worker.specs.Volumes.{OneAlone}
use Rattle.nfs_worker.proofs.Accounts.{grew_none}
use Rattle.nfs_worker.proofs.Opens.{place_within}
use Rattle.nfs_worker.proofs.Places.{alone_still, all_at}
use Rattle.nfs_worker.proofs.Resting.{stays_so}
use Rattle.nfs_worker.proofs.Turns.{untended_same}
use Rattle.nfs_worker.proofs.answering.answer.Goals as goal

pub index_mut-requires : goal.index_mut-requires
index_mut-requires g c =
    let place = c.place_of-at.ensures in
    let long = c.len.ensures in
    let below = place_within c.args.bytes.now _ c.in-Ok.datagram c.in-Ok.ensures.ok (let some = c.requires.desk.some in omega (arith, some, long)) in
    omega (arith, place, below, long)

pub react-requires-clause-rest : goal.react-requires-clause-rest
react-requires-clause-rest g c =
    let place = c.place_of-at.ensures in
    let long = c.len.ensures in
    let below = place_within c.args.bytes.now _ c.in-Ok.datagram c.in-Ok.ensures.ok (let some = c.requires.desk.some in omega (arith, some, long)) in
    all_at (Rests g.S.Stable) c.args.cells.now.volumes.items c.place_of-at.result c.index_mut.result.now c.requires.rest
    (slice_get_read c.args.cells.now.volumes.items (length c.args.cells.now.volumes.items) c.place_of-at.result c.index_mut.result.now refl (omega (arith, place, below, long)) c.index_mut.ensures.value)

pub react-requires-clause-puts : goal.react-requires-clause-puts
react-requires-clause-puts g c =
    let place = c.place_of-at.ensures in
    let long = c.len.ensures in
    let puts = c.requires.desk.puts in
    let below = place_within c.args.bytes.now _ c.in-Ok.datagram c.in-Ok.ensures.ok (let some = c.requires.desk.some in omega (arith, some, long)) in
    omega (arith, place, below, long, puts)

pub returns-in-Ok : goal.returns-in-Ok
returns-in-Ok g c =
    let volumes = c.args.cells.now.volumes.items in
    let place = c.place_of-at.ensures in
    let long = c.len.ensures in
    let whole : c.len.result ≡ length volumes = omega (arith, long) in
    let means : c.in-Ok.datagram ≡ meaning c.args.bytes.now (length volumes) = c.in-Ok.ensures.ok ∙ ap (λ (n : ℕ). meaning c.args.bytes.now n) whole in
    let at : c.place_of-at.result ≡ place_of (meaning c.args.bytes.now (length volumes)) = place ∙ ap place_of means in
    let below = place_within c.args.bytes.now _ c.in-Ok.datagram c.in-Ok.ensures.ok (let some = c.requires.desk.some in omega (arith, some, long)) in
    let found = slice_get_read volumes (length volumes) c.place_of-at.result c.index_mut.result.now refl (omega (arith, place, below, long)) c.index_mut.ensures.value in
    subst (λ (n : ℕ). OneAlone (λ old new. Answers g.S.Stable n old new c.args.cells.now.desk c.react.new.desk c.args.asked.number c.args.asked.now c.args.asked.from (meaning c.args.bytes.now (length volumes)) c.react.result) n volumes (slice_set volumes c.place_of-at.result c.react.new.volume)) at
    (record {
      old = c.index_mut.result.now;
      new = c.react.new.volume;
      found = found;
      put = refl;
      went = subst (λ (m : Meaning). Answers g.S.Stable c.place_of-at.result c.index_mut.result.now c.react.new.volume c.args.cells.now.desk c.react.new.desk c.args.asked.number c.args.asked.now c.args.asked.from m c.react.result) means c.react.ensures;
    })

pub returns-in-Err : goal.returns-in-Err
returns-in-Err g c =
    let s = g.S.Stable in
    let volumes = c.args.cells.now.volumes.items in
    let below = place_within c.args.bytes.now (length volumes) (meaning c.args.bytes.now (length volumes)) refl c.requires.desk.some in
    alone_still volumes (place_of (meaning c.args.bytes.now (length volumes))) below (λ volume found. record {
      holds = [];
      at = refl;
      grows = grew_none s g.met.S.Stable.clocked (store_of volume);
      rest = stays_so s volume (all_at (Rests s) volumes (place_of (meaning c.args.bytes.now (length volumes))) volume c.requires.rest found);
      comes = (refl, (refl, untended_same _));
      mine = tt;
      timed = tt;
    })
