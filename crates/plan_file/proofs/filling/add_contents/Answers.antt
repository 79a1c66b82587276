use Rattle.std.proofs.Common.{rules, arith, ◌≡◌, ℕ, subst, ◌+◌, ◌∷◌, ◌++◌, [], get_or, sym, ap, ◌∙◌, append_assoc, true, false}
use Rattle.std.proofs.lemmas.List.{append-nil}
use Rattle.std.specs.List.{range_with_len, list_any}
use Rattle.files_model.specs.Batch.{touches}
use Rattle.stable.specs.Puts.{Reserved}
use Rattle.stable.specs.Store.{Image}
use Rattle.plan_file.specs.Accepted.{kept_of, spliced_by}
use Rattle.plan_file.specs.Contents.{old_content, content_puts, touched_below, Fits}
use Rattle.plan_file.proofs.Adding.{fits-none, fits-one}
use Rattle.plan_file.proofs.DataSteps.{content-none, content-skip, content-more}
use Rattle.plan_file.proofs.Touching.{touched-more, touched-skip, touched-room}
use Rattle.plan_file.proofs.filling.add_contents.Goals as goal

pub loop-index-init : goal.loop-index-init
loop-index-init g c =
    let S = g.S.Stable in
    record {
      added = λ tells. sym (append-nil c.args.plan.now.puts) ∙ ap (λ l. c.args.plan.now.puts ++ l) (sym (content-none (S.image c.args.store.now) c.args.size c.args.places.now.body c.args.target.now.body (kept_of c.args.batch.now c.args.replies.now) 0));
      fits = fits-none (S.sector_count c.args.store.now) _ c.args.plan.now;
      looked = search rules;
    }

pub loop-index-preserved-then-not-is_touched : goal.loop-index-preserved-then-not-is_touched
loop-index-preserved-then-not-is_touched g c =
    let S = g.S.Stable in
    let i = c.loop-index.invariant in
    let image : Image = S.image c.args.store.now in
    let ws = kept_of c.args.batch.now c.args.replies.now in
    let out : list_any (touches c.loop-index.index) ws ≡ false = sym c.is_touched.ensures ∙ search rules in
    record {
      added = λ tells. i.added tells ∙ ap (λ l. c.args.plan.now.puts ++ l) (sym (content-skip image c.args.size c.args.places.now.body c.args.target.now.body ws c.loop-index.index out));
      fits = subst (λ (n : ℕ). Fits (S.sector_count c.args.store.now) n c.args.plan.now c.loop-index.plan) (sym (touched-skip ws c.loop-index.index out)) i.fits;
      looked = i.looked;
    }

pub loop-index-preserved : goal.loop-index-preserved
loop-index-preserved g c =
    let S = g.S.Stable in
    let i = c.loop-index.invariant in
    let image : Image = S.image c.args.store.now in
    let ws = kept_of c.args.batch.now c.args.replies.now in
    let body = c.args.places.now.body in
    let target = c.args.target.now.body in
    let in' : list_any (touches c.loop-index.index) ws ≡ true = sym c.is_touched.ensures ∙ search rules in
    let to = c.requires.to c.loop-index.index (search rules) in' in
    record {
      added = λ tells.
          ap (λ (p : Reserved). p.puts) c.add.ensures
          ∙ (λ z. i.added tells z ++ (get_or target c.loop-index.index 0, (c.in_ok-bytes.ensures.content tells ∙ ap (λ m. spliced_by ws c.loop-index.index (old_content m c.args.size c.loop-index.index (get_or body c.loop-index.index 0))) i.looked.image) z) ∷ [])
          ∙ append_assoc c.args.plan.now.puts (content_puts image c.args.size body target ws (range_with_len 0 c.loop-index.index)) _
          ∙ ap (λ l. c.args.plan.now.puts ++ l) (sym (content-more image c.args.size body target ws c.loop-index.index in'));
      fits = subst (λ (n : ℕ). Fits (S.sector_count c.args.store.now) n c.args.plan.now c.add.new.self) (sym (touched-more ws c.loop-index.index in'))
          (fits-one (S.sector_count c.args.store.now) (touched_below ws c.loop-index.index) c.args.plan.now c.loop-index.plan c.add.new.self (get_or target c.loop-index.index 0) c.in_ok-bytes.bytes i.fits to.0 to.1 c.add.ensures);
      looked = search rules;
    }

pub add-requires : goal.add-requires
add-requires g c =
    let i = c.loop-index.invariant in
    let ws = kept_of c.args.batch.now c.args.replies.now in
    let in' : list_any (touches c.loop-index.index) ws ≡ true = sym c.is_touched.ensures ∙ search rules in
    let more = touched-room ws c.loop-index.index (search rules) in' in
    let few = i.fits.few in
    let same = i.fits.room in
    let room = c.requires.room in
    omega (arith, more, few, same, room)
