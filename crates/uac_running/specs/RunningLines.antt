-- The lines that are said of a running device (profile).
use Rattle.std.specs.Prelude.{List, [], ◌∷◌, ◌++◌, map, length}
use Rattle.uac_topology.specs.Function.{FunctionFields}
use Rattle.uac_transcript.specs.Transcript.{Said, says_ready, says_time, says_steady, says_meter, says_renders}
use Rattle.uac_running.specs.ReportLines.{domain_line, stream_line}
use Rattle.uac_running.specs.RunningWorld.{RunningWorld, is_steady}

-- the line of the descriptor's end
abbrev pub ready_line : FunctionFields → Said
ready_line function = says_ready (length function.entities) (length function.streams) (length function.domains)

-- the report
unfoldable pub report_lines : RunningWorld → List Said
report_lines r =
    says_time r.time ∷ says_steady (is_steady r) ∷ map (domain_line r.device) r.device.domains
    ++ (map (stream_line r.device r.met) r.device.function.streams ++ (map says_meter r.meters ++ says_renders r.renders ∷ []))
