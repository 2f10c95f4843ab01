-- Profile: the bytes of the script that a number generates.
use Rattle.std.specs.Prelude.{ℕ, List}
use Rattle.uac_edges.specs.TextLines.{with_newlines}
use Rattle.uac_gen.specs.Generator.{generated_lines}

-- the bytes of a number's script: its lines, each with its newline
unfoldable pub script_of : ℕ → List ℕ
script_of number = with_newlines (generated_lines number)
