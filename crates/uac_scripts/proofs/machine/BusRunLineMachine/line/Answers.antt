use Rattle.uac_scripts.proofs.machine.BusRunLineMachine.line.Goals as goal

pub do_line-requires-clause-rack : goal.do_line-requires-clause-rack
do_line-requires-clause-rack g c =
    let fits = c.requires.fits in record { mixer = fits.0; selector = fits.1; feature = fits.2; effect = fits.3 }
