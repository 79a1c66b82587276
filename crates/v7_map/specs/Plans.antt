-- What each plan is to do, whatever the call.
use Rattle.std.specs.Prelude.{◌≡◌, ℕ, ◌<◌, ◌≤◌, List, length}
use Rattle.std.specs.List.{AllByRecursion}
use Rattle.files_model.specs.Files.{Files}
use Rattle.files_model.specs.Torn.{Asked, Torn, after_calls}
use Rattle.stable.specs.Store.{Image}
use Rattle.v7_map.specs.Frame.{frame}
use Rattle.v7_map.specs.Weak.{IsWeak, IsStrong}
use Rattle.v7_map.specs.View.{view}
use Rattle.stable.specs.Puts.{put_all, EachPrefix}

-- a moment of a plan: the image can be mended, and its files are torn
pub record IsTornImage (files : Files) (calls : List Asked) (now : ℕ) (image : Image) : Type 0 where
  pub weak : IsWeak (frame image)
  pub torn : Torn files calls now (view image)

-- The plan of calls: whole sectors past the super-block, of which each prefix leaves torn files, and the whole the files after the calls with nothing to mend.
pub record IsPlanOf (image : Image) (calls : List Asked) (now : ℕ) (puts : List (ℕ × List ℕ)) : Type 0 where
  pub past : AllByRecursion (λ (put : ℕ × List ℕ). 2 ≤ put.0) puts
  pub inside : AllByRecursion (λ (put : ℕ × List ℕ). put.0 < length image) puts
  pub whole : AllByRecursion (λ (put : ℕ × List ℕ). length put.1 ≡ 512) puts
  pub prefixes : EachPrefix (IsTornImage (view image) calls now) puts image
  pub strong : IsStrong (frame (put_all puts image))
  pub after : view (put_all puts image) ≡ after_calls (view image) calls now
