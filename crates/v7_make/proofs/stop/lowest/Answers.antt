use Rattle.std.proofs.Common.{rules, arith, ◌≡◌, min, length, sym, subst, ap}
use Rattle.index_sets.specs.Free.{count_free}
use Rattle.v7_make.specs.Stops.{ListedTo}
use Rattle.v7_make.specs.declared.stop.Listing.{Listing}
use Rattle.v7_make.proofs.Lowest.{listed_start, listed_next, listed_end}
use Rattle.v7_make.proofs.stop.lowest.Goals as goal

pub loop-item-init : goal.loop-item-init
loop-item-init c =
    let left = c.no_numbers-listing.ensures.left in
    record {
      listed = subst (λ n. ListedTo c.args.inodes.now c.no_numbers-listing.result.numbers c.min-count.result n 0) (sym left)
          (listed_start c.args.inodes.now c.no_numbers-listing.result.numbers c.min-count.result c.no_numbers-listing.ensures.none);
      few = search rules;
    }

pub loop-item-preserved : goal.loop-item-preserved
loop-item-preserved c =
    let e = c.listed_with-listing.ensures in
    record {
      listed = listed_next c.args.inodes.now c.loop-item.listing.numbers c.listed_with-listing.result.numbers c.min-count.result c.loop-item.listing.left c.listed_with-listing.result.left c.loop-item.item c.has.result c.has.ensures
          (search rules)
          (λ none. (ap (λ (l : Listing). l.numbers) (e.kept none), ap (λ (l : Listing). l.left) (e.kept none)))
          (λ z. (ap (λ (l : Listing). l.numbers) (e.full z), ap (λ (l : Listing). l.left) (e.full z)))
          (λ some nz. (e.left some nz, e.placed some nz))
          c.loop-item.invariant.listed;
      few = (let fewer = e.fewer in let few = c.loop-item.invariant.few in omega (arith, fewer, few));
    }

pub returns : goal.returns
returns c =
    let end : c.loop-item.item ≡ length c.args.inodes.now = search rules in
    let most : c.min-count.result ≡ min 100 (count_free c.args.inodes.now) = search rules in
    listed_end c.args.inodes.now c.loop-item.listing.numbers c.min-count.result c.loop-item.listing.left most
    (subst (λ n. ListedTo c.args.inodes.now c.loop-item.listing.numbers c.min-count.result c.loop-item.listing.left n) end c.loop-item.invariant.listed)
