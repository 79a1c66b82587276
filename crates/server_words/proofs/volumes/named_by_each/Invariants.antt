use Rattle.std.proofs.Common.{◌≡◌, ◌≤◌, ◌++◌, drop, length, map}
use Rattle.std.specs.List.{All}
use Rattle.std.specs.Option.{option_map}
use Rattle.run_lines.specs.Naming.{named_of}
use Rattle.server_words.specs.Words.{named_by_each}
use Rattle.server_words.proofs.volumes.named_by_each.Given as goal

abbrev pub invariant-loop-word : goal.invariant-loop-word
invariant-loop-word l = record {
  named : option_map (λ more. map named_of l.volumes.items ++ more) (named_by_each (map (λ word. word.now) (drop l.word-index l.words))) ≡ named_by_each (map (λ word. word.now) l.words);
  short : All (λ volume. length volume.word.now ≤ 401) l.volumes.items;
}
