-- The order of the blocks: USB 2.0, 9.4.3, and Audio Class 2.0, 4.
use Rattle.std.specs.Prelude.{Bool, true, false, not, ◌==◌, ℕ}
use Rattle.uac_grammar_rules.specs.Production.{Production, one, then', either, many, option}
use Rattle.uac_grammar_rules.specs.declared.roles.BlockRole.{BlockRole}
use Rattle.uac_grammar_rules.specs.declared.roles.BlockRole.TheVariants.{Device, Configuration, AudioAssociation, ForeignAssociation}
use Rattle.uac_grammar_rules.specs.declared.roles.BlockRole.TheVariants.{ControlInterface, StreamingInterface, ForeignInterface, Endpoint, Header}
use Rattle.uac_grammar_rules.specs.declared.roles.BlockRole.TheVariants.{Entity, General, TypeOne, Extra, ClassEndpoint, Other}
use Rattle.uac_grammar_rules.specs.declared.roles.BlockRole.TheVariants.{UnknownSubtype}
use Rattle.uac_grammar_rules.specs.declared.roles.BlockRole.TheVariants.{Stray}

-- the place of a role in the list of roles
abbrev pub number : BlockRole → ℕ
number Device = 0
number Configuration = 1
number AudioAssociation = 2
number ForeignAssociation = 3
number ControlInterface = 4
number StreamingInterface = 5
number ForeignInterface = 6
number Endpoint = 7
number Header = 8
number Entity = 9
number General = 10
number TypeOne = 11
number Extra = 12
number ClassEndpoint = 13
number Other = 14
number UnknownSubtype = 15
number Stray = 16

-- a block of this role
abbrev pub a : BlockRole → Production BlockRole
a role = one (λ k. number role == number k)

-- a configuration, an association or an interface: what ends a foreign part
abbrev pub ends_part : BlockRole → Bool
ends_part Configuration = true
ends_part AudioAssociation = true
ends_part ForeignAssociation = true
ends_part ControlInterface = true
ends_part StreamingInterface = true
ends_part ForeignInterface = true
ends_part Device = false
ends_part Endpoint = false
ends_part Header = false
ends_part Entity = false
ends_part General = false
ends_part TypeOne = false
ends_part Extra = false
ends_part ClassEndpoint = false
ends_part Other = false
ends_part UnknownSubtype = false
ends_part Stray = false

abbrev pub stays_in_part : BlockRole → Bool
stays_in_part k = not (ends_part k)

-- blocks of types that audio has no rule for
abbrev pub others : Production BlockRole
others = many (a Other)

-- another function's part: an association or an interface, and whatever follows
abbrev pub foreign : Production BlockRole
foreign = then' (either (a ForeignAssociation) (a ForeignInterface)) (many (one stays_in_part))

-- the control interface: its header, the entities, and perhaps the endpoint for interrupts
abbrev pub control : Production BlockRole
control =
    then' (a ControlInterface) (then' (a Header) (then' (many (a Entity)) (then' others (option (then' (a Endpoint) others)))))

-- at most one Type I format among the class blocks
abbrev pub formats : Production BlockRole
formats = then' (many (a Extra)) (option (then' (a TypeOne) (many (a Extra))))

-- an endpoint, and perhaps its class block
abbrev pub endpoint : Production BlockRole
endpoint = then' (a Endpoint) (option (a ClassEndpoint))

-- one setting of a streaming interface
abbrev pub stream : Production BlockRole
stream =
    then' (a StreamingInterface)
    (then' others (option (then' (a General) (then' formats (then' (option (then' endpoint (option endpoint))) others)))))

-- the whole descriptor
abbrev pub input : Production BlockRole
input =
    then' (option (a Device)) (then' (a Configuration)
    (then' others (then' (many foreign) (then' (a AudioAssociation) (then' control (many (either foreign stream)))))))
