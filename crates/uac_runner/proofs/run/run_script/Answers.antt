use Rattle.uac_runner.proofs.WholeLemmas.{run_complete}
use Rattle.uac_runner.proofs.run.run_script.Goals as goal

pub returns : goal.returns
returns g c = λ w s.
    let run = c.run_lines.ensures.run w s in
    let cause = c.run_lines.ensures.write_fault w s in
    record {
      run = run;
      complete = run_complete g.M.LineMachine.machine w (g.M.LineMachine.shows c.run_lines.new.beside) _ _ _ run cause;
      read_fault = c.run_lines.ensures.read_fault;
      write_fault = cause;
      faultless = c.run_lines.ensures.faultless w s;
      ok = c.run_lines.ensures.ok w s;
    }
