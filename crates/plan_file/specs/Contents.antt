-- The puts of a batch: each touched sector with its final content, where its block is to stand.
use Rattle.std.specs.Prelude.{◌≡◌, ◌≢◌, ℕ, ◌+◌, ◌/◌, ◌%◌, ◌-◌, ◌*◌, ◌<◌, ◌≤◌, Bool, List, [], ◌∷◌, map, length, get_or, ◌==◌, nat_lt, if◌then◌else◌, not, ◌&&◌}
use Rattle.std.specs.List.{filter, list_any, count_by, range_with_len}
use Rattle.v7_layout.specs.Numbers.{field}
use Rattle.files_model.specs.declared.call.WriteItem.{WriteItem}
use Rattle.files_model.specs.Batch.{touches}
use Rattle.files_model.specs.Files.{clipped}
use Rattle.files_model.specs.Step.{zeros}
use Rattle.stable.specs.Store.{Image}
use Rattle.stable.specs.Puts.{Reserved, AllStand, AllPastSuperBlock}
use Rattle.plan_file.specs.declared.places.Places.{Places}
use Rattle.plan_file.specs.Accepted.{spliced_by}

-- what stands at an address, zeros where it is 0
abbrev pub sector_or_zeros : Image → ℕ → List ℕ
sector_or_zeros image a = if a == 0 then zeros else get_or image a []

-- sector k of a body of this size whose block is a
abbrev pub old_content : Image → ℕ → ℕ → ℕ → List ℕ
old_content image size k a = clipped size k (sector_or_zeros image a)

-- the put of sector k, after writes
abbrev pub content_put : Image → ℕ → List ℕ → List ℕ → List WriteItem → ℕ → ℕ × List ℕ
content_put image size body target ws k = (get_or target k 0, spliced_by ws k (old_content image size k (get_or body k 0)))

-- the puts of the touched sectors among some
unfoldable pub content_puts : Image → ℕ → List ℕ → List ℕ → List WriteItem → List ℕ → List (ℕ × List ℕ)
content_puts image size body target ws ks = map (content_put image size body target ws) (filter (λ k. list_any (touches k) ws) ks)

-- how many of the sectors below i they touch
unfoldable pub touched_below : List WriteItem → ℕ → ℕ
touched_below ws i = count_by (λ k. list_any (touches k) ws) (range_with_len 0 i)

-- the old size cuts a sector that stands and isn't touched, and the new one is above it
abbrev pub cuts : ℕ → ℕ → List ℕ → List WriteItem → Bool
cuts size new_size body ws =
    nat_lt size new_size && (not (size % 512 == 0) && (not (get_or body (size / 512) 0 == 0) && not (list_any (touches (size / 512)) ws)))

-- its put
unfoldable pub cut_puts : Image → ℕ → ℕ → List ℕ → List WriteItem → List (ℕ × List ℕ)
cut_puts image size new_size body ws =
    if cuts size new_size body ws then (get_or body (size / 512) 0, old_content image size (size / 512) (get_or body (size / 512) 0)) ∷ [] else []

-- the put of the block of addresses: none where no address in it changes
pub data MapPuts (old new : Places) : List (ℕ × List ℕ) → Type 0 where
  none : ((k : ℕ) → 10 ≤ k → k < 138 → get_or new.body k 0 ≡ get_or old.body k 0) → MapPuts old new []
  one : (bytes : List ℕ) (changed : ℕ) → length bytes ≡ 512 → 10 ≤ changed → changed < 138 → get_or new.body changed 0 ≢ get_or old.body changed 0 → ((k : ℕ) → 10 ≤ k → k < 138 → field bytes (4 * (k - 10)) 4 ≡ get_or new.body k 0) → MapPuts old new ((new.single, bytes) ∷ [])

-- at most so many puts were added, all past the super-block and within so many sectors, and the room stays
pub record Fits (sectors most : ℕ) (old new : Reserved) : Type 0 where
  pub stand : AllStand sectors old.puts → AllStand sectors new.puts
  pub past : AllPastSuperBlock old.puts → AllPastSuperBlock new.puts
  pub few : length new.puts ≤ length old.puts + most
  pub room : new.room ≡ old.room
