use Rattle.std.proofs.Common.{◌∙◌, sym}
use Rattle.uac_status.specs.Messages.{key_told}
use Rattle.uac_status.proofs.MessageLemmas.{found_one, none_found, within_one}
use Rattle.uac_status.proofs.following.element_told.Goals as goal

pub returns-clause-found : goal.returns-clause-found
returns-clause-found c =
    found_one c.args.control c.args.view.now.elements c.args.message.now c.index_of.result (sym c.is_of_interface.ensures ∙ c.if-not-is_of_interface.false) c.index_of.ensures

pub returns-clause-there : goal.returns-clause-there
returns-clause-there c = within_one c.args.view.now.elements (key_told c.args.message.now) c.index_of.result c.index_of.ensures

pub returns-clause-none : goal.returns-clause-none
returns-clause-none c =
    none_found c.args.control c.args.view.now.elements c.args.message.now c.index_of.result (sym c.is_of_interface.ensures ∙ c.if-not-is_of_interface.false) c.index_of.ensures
