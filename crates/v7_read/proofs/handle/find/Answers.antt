use Rattle.std.proofs.Common.{◌≡◌, ◌<◌, ◌≤◌, [], length, get_or, sym, ap, subst, ◌∙◌, refl, true, false}
use Rattle.v7_layout.specs.declared.inode.Inode.{Inode}
use Rattle.v7_layout.specs.Records.{super_of}
use Rattle.v7_layout.specs.Written.{AddressesFit}
use Rattle.v7_map.specs.Image.{is_inode, inode_sector, sector_at}
use Rattle.v7_map.specs.Stored.{is_current}
use Rattle.stable.proofs.Looking.{no_look, looks_again}
use Rattle.v7_map.proofs.Whole.{as_long}
use Rattle.v7_read.proofs.Finding.{not_short, number-read, finds_no_inode, not_outside, inode-read, finds_stale, finds_file}
use Rattle.v7_read.proofs.handle.find.Goals as goal

pub returns-then-sectors-lt2-clause-found : goal.returns-then-sectors-lt2-clause-found
returns-then-sectors-lt2-clause-found g c = λ tells strong.
    let image = g.S.Stable.image c.args.store.now in
    let shape = as_long g.S.Stable.sector_count g.met.S.Stable.clocked g.met.S.Stable.shape c.args.store.now tells in
    absurd (not_short image strong (subst (λ n. n < 2) (c.sectors.ensures ∙ sym shape.size) c.if-sectors-lt2.true))

pub returns-then-not-has_inode-clause-found : goal.returns-then-not-has_inode-clause-found
returns-then-not-has_inode-clause-found g c = λ tells strong.
    let S = g.S.Stable in
    let image = S.image c.args.store.now in
    let super : c.read-super_block.result ≡ super_of (sector_at image 1) = c.read-super_block.ensures.record_of ∙ ap super_of (c.in_ok-get_sector.ensures.done tells) in
    let none : is_inode image c.args.file.ino ≡ false = sym (c.has_inode.ensures ∙ number-read image strong c.read-super_block.result c.args.file.ino super) ∙ c.if-not-has_inode.true in
    finds_no_inode image strong c.args.file none

pub returns-then-place-sectors-clause-found : goal.returns-then-place-sectors-clause-found
returns-then-place-sectors-clause-found g c = λ tells strong.
    let S = g.S.Stable in
    let image = S.image c.args.store.now in
    let super : c.read-super_block.result ≡ super_of (sector_at image 1) = c.read-super_block.ensures.record_of ∙ ap super_of (c.in_ok-get_sector.ensures.done tells) in
    let inside : is_inode image c.args.file.ino ≡ true = sym (c.has_inode.ensures ∙ number-read image strong c.read-super_block.result c.args.file.ino super) ∙ c.if-not-has_inode.false in
    let shape = as_long g.S.Stable.sector_count g.met.S.Stable.clocked g.met.S.Stable.shape c.args.store.now tells in
    let long : c.sectors-2.result ≡ length image = c.sectors-2.ensures ∙ c.in_ok-get_sector.ensures.looked.sectors ∙ sym shape.size in
    absurd (not_outside image strong c.args.file inside (subst (λ n. n ≤ inode_sector c.args.file.ino) long (subst (λ n. c.sectors-2.result ≤ n) c.inode_sector_of-place.ensures c.if-place-sectors.true)))

pub returns-then-not-is_current-clause-found : goal.returns-then-not-is_current-clause-found
returns-then-not-is_current-clause-found g c = λ tells strong.
    let S = g.S.Stable in
    let image = S.image c.args.store.now in
    let super : c.read-super_block.result ≡ super_of (sector_at image 1) = c.read-super_block.ensures.record_of ∙ ap super_of (c.in_ok-get_sector.ensures.done tells) in
    let inside : is_inode image c.args.file.ino ≡ true = sym (c.has_inode.ensures ∙ number-read image strong c.read-super_block.result c.args.file.ino super) ∙ c.if-not-has_inode.false in
    let sector : c.in_ok-sector.sector ≡ sector_at image (inode_sector c.args.file.ino) =
    c.in_ok-sector.ensures.done tells ∙ (λ z. get_or (c.in_ok-get_sector.ensures.looked.image z) (c.inode_sector_of-place.ensures z) []) in
    let read = inode-read image c.args.file.ino c.in_ok-sector.sector c.inode_in-stored.result inside sector c.inode_in-stored.ensures.inode in
    finds_stale image strong c.args.file inside c.inode_in-stored.result read (ap (λ (n : Inode). is_current n c.args.file.generation) (sym c.with_limits-inode.ensures) ∙ sym c.is_current.ensures ∙ c.if-not-is_current.true)

pub returns-clause-found : goal.returns-clause-found
returns-clause-found g c = λ tells strong.
    let S = g.S.Stable in
    let image = S.image c.args.store.now in
    let super : c.read-super_block.result ≡ super_of (sector_at image 1) = c.read-super_block.ensures.record_of ∙ ap super_of (c.in_ok-get_sector.ensures.done tells) in
    let inside : is_inode image c.args.file.ino ≡ true = sym (c.has_inode.ensures ∙ number-read image strong c.read-super_block.result c.args.file.ino super) ∙ c.if-not-has_inode.false in
    let sector : c.in_ok-sector.sector ≡ sector_at image (inode_sector c.args.file.ino) =
    c.in_ok-sector.ensures.done tells ∙ (λ z. get_or (c.in_ok-get_sector.ensures.looked.image z) (c.inode_sector_of-place.ensures z) []) in
    let read = inode-read image c.args.file.ino c.in_ok-sector.sector c.inode_in-stored.result inside sector c.inode_in-stored.ensures.inode in
    finds_file image strong c.args.file inside c.read-super_block.result super _ refl sector c.inode_in-stored.result read c.with_limits-inode.ensures (sym c.is_current.ensures ∙ c.if-not-is_current.false)

pub returns-then-sectors-lt2-clause-looked : goal.returns-then-sectors-lt2-clause-looked
returns-then-sectors-lt2-clause-looked g c = no_look g.S.Stable g.met.S.Stable.clocked c.args.store.now

pub returns-then-not-has_inode-clause-looked : goal.returns-then-not-has_inode-clause-looked
returns-then-not-has_inode-clause-looked g c = c.in_ok-get_sector.ensures.looked

pub returns-then-place-sectors-clause-looked : goal.returns-then-place-sectors-clause-looked
returns-then-place-sectors-clause-looked g c = c.in_ok-get_sector.ensures.looked

pub returns-then-not-is_current-clause-looked : goal.returns-then-not-is_current-clause-looked
returns-then-not-is_current-clause-looked g c = looks_again g.S.Stable g.met.S.Stable.clocked c.in_ok-get_sector.ensures.looked c.in_ok-sector.ensures.looked

pub returns-clause-looked : goal.returns-clause-looked
returns-clause-looked g c = looks_again g.S.Stable g.met.S.Stable.clocked c.in_ok-get_sector.ensures.looked c.in_ok-sector.ensures.looked

pub returns-in_err-get_sector-clause-looked : goal.returns-in_err-get_sector-clause-looked
returns-in_err-get_sector-clause-looked g c = c.in_err-get_sector.ensures.looked

pub returns-in_err-sector-clause-looked : goal.returns-in_err-sector-clause-looked
returns-in_err-sector-clause-looked g c = looks_again g.S.Stable g.met.S.Stable.clocked c.in_ok-get_sector.ensures.looked c.in_err-sector.ensures.looked

pub invariant_of-result : goal.invariant_of-result
invariant_of-result g c = record {
  fits = let fit = c.inode_in-stored.ensures.fits in subst AddressesFit (sym c.with_limits-inode.ensures) record { direct = fit.direct; single = fit.single; double = fit.double };
}
