-- What a view has of each sector of a regular file, and what a WRITE makes of it.
use Rattle.std.proofs.Common.{◌≡◌, ◌≢◌, ℕ, ◌<◌, cond, ap, ◌∙◌, Some, None}
use Rattle.std.proofs.lemmas.Bool.{ne_eqb}
use Rattle.std.specs.FinMap.{get}
use Rattle.std.specs.Option.{unwrap_or}
use Rattle.files_model.specs.declared.attributes.Kind.TheVariants.{Regular}
use Rattle.files_model.specs.Files.{Node, sectors_of, clipped}
use Rattle.files_model.specs.Step.{sector_of, zeros}
use Rattle.stable.specs.Store.{Image}
use Rattle.v7_map.specs.Image.{sector_at}
use Rattle.v7_map.specs.Frame.{Body, frame}
use Rattle.v7_map.specs.View.{view, held}
use Rattle.v7_map.proofs.Bodies.{view-sector}

module _ (image : Image) (i k : ℕ) (n : Node) (at : get (view image).nodes i ≡ Some n) (regular : n.kind ≡ Regular) (below : k < sectors_of n.size) where
  -- a sector without a block is missing
  pub sector-missing : (frame image).address i (Body k) ≡ 0 → get n.sectors k ≡ None
  sector-missing zero = view-sector image i k n at regular below ∙ ap (held image n.size k) zero

  -- a sector with a block holds what stands there, with zeros at and past the size
  pub sector-held : (frame image).address i (Body k) ≢ 0 → get n.sectors k ≡ Some (clipped n.size k (sector_at image ((frame image).address i (Body k))))
  sector-held nonzero = view-sector image i k n at regular below ∙ ap (λ b. cond b None (Some (clipped n.size k (sector_at image ((frame image).address i (Body k)))))) (ne_eqb _ 0 nonzero)

  pub sector_of-held : (frame image).address i (Body k) ≢ 0 → sector_of n.sectors k ≡ clipped n.size k (sector_at image ((frame image).address i (Body k)))
  sector_of-held nonzero = ap (λ o. unwrap_or o zeros) (sector-held nonzero)
