-- The order of the blocks as one table: what the blocks so far leave open, and where one more leads.
use Rattle.std.specs.Prelude.{Bool, true, false, Option, Some, None}
use Rattle.uac_grammar_rules.specs.declared.roles.BlockRole.{BlockRole}
use Rattle.uac_grammar_rules.specs.declared.roles.BlockRole.TheVariants.{Device, Configuration, AudioAssociation, ForeignAssociation}
use Rattle.uac_grammar_rules.specs.declared.roles.BlockRole.TheVariants.{ControlInterface, StreamingInterface, ForeignInterface, Endpoint, Header}
use Rattle.uac_grammar_rules.specs.declared.roles.BlockRole.TheVariants.{Entity, General, TypeOne, Extra, ClassEndpoint, Other}
use Rattle.uac_grammar_rules.specs.declared.roles.BlockRole.TheVariants.{UnknownSubtype}
use Rattle.uac_grammar_rules.specs.declared.roles.BlockRole.TheVariants.{Stray}
use Rattle.uac_grammar_rules.specs.declared.stages.OrderStage.{OrderStage}
use Rattle.uac_grammar_rules.specs.declared.stages.OrderStage.TheVariants.{Start, Due, Opening, Before, Announced, Headless, Listing, Quiet}
use Rattle.uac_grammar_rules.specs.declared.stages.OrderStage.TheVariants.{Setting}
use Rattle.uac_grammar_rules.specs.declared.stages.OrderStage.TheVariants.{Formats, Formatted, FirstEndpoint, FirstDone, SecondEndpoint}
use Rattle.uac_grammar_rules.specs.declared.stages.OrderStage.TheVariants.{Closing}
use Rattle.uac_grammar_rules.specs.declared.stages.OrderStage.TheVariants.{ForeignAfter}

-- after the control interface's part, another part may begin
abbrev pub begin_part : BlockRole → Option OrderStage
begin_part StreamingInterface = Some Setting
begin_part ForeignAssociation = Some ForeignAfter
begin_part ForeignInterface = Some ForeignAfter
begin_part Device = None
begin_part Configuration = None
begin_part AudioAssociation = None
begin_part ControlInterface = None
begin_part Endpoint = None
begin_part Header = None
begin_part Entity = None
begin_part General = None
begin_part TypeOne = None
begin_part Extra = None
begin_part ClassEndpoint = None
begin_part Other = None
begin_part UnknownSubtype = None
begin_part Stray = None

-- where a block of this role leads, or nowhere, where the order does not allow it
abbrev pub next_stage : OrderStage → BlockRole → Option OrderStage
next_stage Start Device = Some Due
next_stage Start Configuration = Some Opening
next_stage Start _ = None
next_stage Due Configuration = Some Opening
next_stage Due _ = None
next_stage Opening Other = Some Opening
next_stage Opening ForeignAssociation = Some Before
next_stage Opening ForeignInterface = Some Before
next_stage Opening AudioAssociation = Some Announced
next_stage Opening _ = None
next_stage Before Configuration = None
next_stage Before ControlInterface = None
next_stage Before StreamingInterface = None
next_stage Before AudioAssociation = Some Announced
next_stage Before _ = Some Before
next_stage Announced ControlInterface = Some Headless
next_stage Announced _ = None
next_stage Headless Header = Some Listing
next_stage Headless _ = None
next_stage Listing Entity = Some Listing
next_stage Listing Other = Some Quiet
next_stage Listing Endpoint = Some Closing
next_stage Listing role = begin_part role
next_stage Quiet Other = Some Quiet
next_stage Quiet Endpoint = Some Closing
next_stage Quiet role = begin_part role
next_stage Setting Other = Some Setting
next_stage Setting General = Some Formats
next_stage Setting role = begin_part role
next_stage Formats Extra = Some Formats
next_stage Formats TypeOne = Some Formatted
next_stage Formats Endpoint = Some FirstEndpoint
next_stage Formats Other = Some Closing
next_stage Formats role = begin_part role
next_stage Formatted Extra = Some Formatted
next_stage Formatted Endpoint = Some FirstEndpoint
next_stage Formatted Other = Some Closing
next_stage Formatted role = begin_part role
next_stage FirstEndpoint ClassEndpoint = Some FirstDone
next_stage FirstEndpoint Endpoint = Some SecondEndpoint
next_stage FirstEndpoint Other = Some Closing
next_stage FirstEndpoint role = begin_part role
next_stage FirstDone Endpoint = Some SecondEndpoint
next_stage FirstDone Other = Some Closing
next_stage FirstDone role = begin_part role
next_stage SecondEndpoint ClassEndpoint = Some Closing
next_stage SecondEndpoint Other = Some Closing
next_stage SecondEndpoint role = begin_part role
next_stage Closing Other = Some Closing
next_stage Closing role = begin_part role
next_stage ForeignAfter Configuration = None
next_stage ForeignAfter AudioAssociation = None
next_stage ForeignAfter ControlInterface = None
next_stage ForeignAfter StreamingInterface = Some Setting
next_stage ForeignAfter _ = Some ForeignAfter

-- the input may end here
abbrev pub may_end : OrderStage → Bool
may_end Start = false
may_end Due = false
may_end Opening = false
may_end Before = false
may_end Announced = false
may_end Headless = false
may_end Listing = true
may_end Quiet = true
may_end Setting = true
may_end Formats = true
may_end Formatted = true
may_end FirstEndpoint = true
may_end FirstDone = true
may_end SecondEndpoint = true
may_end Closing = true
may_end ForeignAfter = true

-- the audio association has not come yet
abbrev pub is_before_association : OrderStage → Bool
is_before_association Start = true
is_before_association Due = true
is_before_association Opening = true
is_before_association Before = true
is_before_association Announced = false
is_before_association Headless = false
is_before_association Listing = false
is_before_association Quiet = false
is_before_association Setting = false
is_before_association Formats = false
is_before_association Formatted = false
is_before_association FirstEndpoint = false
is_before_association FirstDone = false
is_before_association SecondEndpoint = false
is_before_association Closing = false
is_before_association ForeignAfter = false
