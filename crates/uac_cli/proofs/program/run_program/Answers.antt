use Rattle.uac_cli.proofs.program.run_program.Goals as goal

pub returns : goal.returns
returns g c =
    let run = c.run_arguments.ensures in
    record {
      run = record {
        status = c.run_arguments.result;
        so = record {
          call = run.call;
          read_fault = run.read_fault;
          write_fault = run.write_fault;
          faultless = run.faultless;
          ok = run.ok;
          complete = run.complete;
          handed_on = run.handed_on;
        };
        exit = c.exit_code.ensures;
      };
    }
