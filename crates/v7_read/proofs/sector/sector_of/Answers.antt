use Rattle.std.proofs.Common.{◌≡◌, ◌∙◌, ◌-◌, ◌*◌, refl, sym, ap, ℕ, List, length, get_or}
use Rattle.v7_layout.specs.Numbers.{field}
use Rattle.stable.proofs.Looking.{no_look}
use Rattle.v7_map.specs.Frame.{listed}
use Rattle.v7_map.specs.Stored.{address_within}
use Rattle.v7_map.proofs.SectorOf.{sector_in-direct, sector_in-single, sector_in-no_single, sector_in-past, listed-some, within-found}
use Rattle.v7_map.proofs.Whole.{as_long}
use Rattle.v7_read.proofs.sector.sector_of.Goals as goal

pub returns-then-index-lt-DIRECT-clause-found : goal.returns-then-index-lt-DIRECT-clause-found
returns-then-index-lt-DIRECT-clause-found g c tells =
    let size = (as_long g.S.Stable.sector_count g.met.S.Stable.clocked g.met.S.Stable.shape c.args.store.now tells).size in
    c.within.ensures ∙ ap (λ (n : ℕ). address_within n (get_or c.args.inode.now.direct c.args.index 0)) (c.sectors-sectors.ensures ∙ sym size)
    ∙ sym (sector_in-direct (g.S.Stable.image c.args.store.now) c.args.inode.now c.args.index c.if-index-lt-DIRECT.true)

pub returns-then-block-eq0-clause-found : goal.returns-then-block-eq0-clause-found
returns-then-block-eq0-clause-found g c tells =
    let size = (as_long g.S.Stable.sector_count g.met.S.Stable.clocked g.met.S.Stable.shape c.args.store.now tells).size in
    let block = c.within-block.ensures ∙ ap (λ (n : ℕ). address_within n c.args.inode.now.single) (c.sectors-sectors.ensures ∙ sym size) in
    sym (sector_in-no_single (g.S.Stable.image c.args.store.now) c.args.inode.now c.args.index c.if-index-lt-DIRECT.false (sym block ∙ c.if-block-eq0.true))

pub returns-clause-found : goal.returns-clause-found
returns-clause-found g c tells =
    let size = (as_long g.S.Stable.sector_count g.met.S.Stable.clocked g.met.S.Stable.shape c.args.store.now tells).size in
    let count : c.sectors-sectors.result ≡ length (g.S.Stable.image c.args.store.now) = c.sectors-sectors.ensures ∙ sym size in
    let block : c.within-block.result ≡ address_within (length (g.S.Stable.image c.args.store.now)) c.args.inode.now.single = c.within-block.ensures ∙ ap (λ (n : ℕ). address_within n c.args.inode.now.single) count in
    let listed-is : c.address_at-address.result ≡ listed (g.S.Stable.image c.args.store.now) c.within-block.result (c.args.index - 10) =
    c.address_at-address.ensures ∙ ap (λ (at : ℕ). field c.get.new.into at 4) c.place_in_block.ensures
    ∙ ap (λ (b : List ℕ). field b (4 * (c.args.index - 10)) 4) (c.in_ok-get.ensures.done tells) ∙ sym (listed-some (g.S.Stable.image c.args.store.now) c.within-block.result (c.args.index - 10) c.if-block-eq0.false) in
    c.within-2.ensures ∙ ap (λ (n : ℕ). address_within n c.address_at-address.result) count
    ∙ ap (address_within (length (g.S.Stable.image c.args.store.now))) (listed-is ∙ ap (λ (b : ℕ). listed (g.S.Stable.image c.args.store.now) b (c.args.index - 10)) block)
    ∙ sym (sector_in-single (g.S.Stable.image c.args.store.now) c.args.inode.now c.args.index c.if-index-lt-DIRECT.false c.if-index.false)

pub returns-then-index-clause-found : goal.returns-then-index-clause-found
returns-then-index-clause-found g c tells = sym (sector_in-past (g.S.Stable.image c.args.store.now) c.args.inode.now c.args.index c.if-index.true)

pub returns-then-index-lt-DIRECT-clause-looked : goal.returns-then-index-lt-DIRECT-clause-looked
returns-then-index-lt-DIRECT-clause-looked g c = no_look g.S.Stable g.met.S.Stable.clocked c.args.store.now

pub returns-then-index-clause-looked : goal.returns-then-index-clause-looked
returns-then-index-clause-looked g c = no_look g.S.Stable g.met.S.Stable.clocked c.args.store.now

pub returns-then-block-eq0-clause-looked : goal.returns-then-block-eq0-clause-looked
returns-then-block-eq0-clause-looked g c = no_look g.S.Stable g.met.S.Stable.clocked c.args.store.now

pub returns-in_err-get-clause-looked : goal.returns-in_err-get-clause-looked
returns-in_err-get-clause-looked g c = record {
  image = c.in_err-get.ensures.image;
  crash = c.in_err-get.ensures.crash;
  opens = c.in_err-get.ensures.opens;
  later = c.in_err-get.ensures.cause.later;
  sectors = c.in_err-get.ensures.sectors;
  snapshot = c.in_err-get.ensures.snapshot;
}

pub returns-clause-looked : goal.returns-clause-looked
returns-clause-looked g c = record {
  image = c.in_ok-get.ensures.image;
  crash = c.in_ok-get.ensures.crash;
  opens = c.in_ok-get.ensures.opens;
  later = c.in_ok-get.ensures.cause.later;
  sectors = c.in_ok-get.ensures.sectors;
  snapshot = c.in_ok-get.ensures.snapshot;
}

pub returns-then-index-lt-DIRECT-clause-within : goal.returns-then-index-lt-DIRECT-clause-within
returns-then-index-lt-DIRECT-clause-within g c = λ some. within-found _ c.within.ensures c.sectors-sectors.ensures some

pub returns-clause-within : goal.returns-clause-within
returns-clause-within g c = λ some. within-found _ c.within-2.ensures c.sectors-sectors.ensures some

pub returns-then-index-clause-within : goal.returns-then-index-clause-within
returns-then-index-clause-within g c = λ some. absurd (some refl)

pub returns-then-block-eq0-clause-within : goal.returns-then-block-eq0-clause-within
returns-then-block-eq0-clause-within g c = λ some. absurd (some refl)

pub get-requires : goal.get-requires
get-requires g c = within-found _ c.within-block.ensures c.sectors-sectors.ensures c.if-block-eq0.false

pub place_in_block-requires-clause-indirect : goal.place_in_block-requires-clause-indirect
place_in_block-requires-clause-indirect g c = c.if-index-lt-DIRECT.false

pub place_in_block-requires-clause-within : goal.place_in_block-requires-clause-within
place_in_block-requires-clause-within g c = c.if-index.false
