-- The command line, in clap's words for a simple command.
use Rattle.std.specs.Prelude.{◌≡◌, ◌⊎◌, List, [], ◌∷◌, Option, Some, None, true, false, codes, if◌then◌else◌, bytes_eq}
use Rattle.std.specs.Prelude.{Bool, ◌&&◌, not, is_some, option_and_then, option_map}
use Rattle.std.specs.Option.{option_map_or}
use Rattle.std.specs.Borrow.{Bor}
use Rattle.clap.specs.Words.{App, Row, Rule, Text, first_of, new_app, new_rule, one_of, subcommand_of, takes}
use Rattle.clap.specs.Words.{IsAmong, fault_of, with_rule, with_subcommand}
use Rattle.clap.specs.Simple.{on_top}
use Rattle.clap.specs.Walk.{texts}
use Rattle.clap.specs.declared.builder.action.ArgAction.TheVariants.{SetTrue}
use Rattle.clap.specs.declared.builder.value_parser.ValueParser.TheVariants.{Names}
use Rattle.clap.specs.declared.error.kind.ErrorKind.{ErrorKind}
use Rattle.clap.specs.declared.error.kind.ErrorKind.TheVariants.{MissingRequiredArgument, OutOfMemory}
use Rattle.nf_forms.specs.declared.form.Form.{Form}
use Rattle.nf_forms.specs.declared.form.Form.TheVariants.{Nfc, Nfd, Nfkc, Nfkd}
use Rattle.nf_filter.specs.declared.policy.Policy.{Policy}
use Rattle.nf_cmd.specs.declared.line.Request.{Request}
use Rattle.nf_cmd.specs.declared.line.Request.TheVariants.{Convert, ConvertLines, Check, CheckForm, Measure, Test}

-- the values of --form
abbrev pub form_names : List Text
form_names = codes "nfc" ∷ codes "nfd" ∷ codes "nfkc" ∷ codes "nfkd" ∷ []

abbrev pub form_named : Text → Option Form
form_named name =
    if bytes_eq name (codes "nfc") then Some Nfc
    else (if bytes_eq name (codes "nfd") then Some Nfd
    else (if bytes_eq name (codes "nfkc") then Some Nfkc
    else (if bytes_eq name (codes "nfkd") then Some Nfkd else None)))

-- the option --form, which takes one of the names, and has to be there or not
unfoldable pub form_rule : Bor (List (Bor Text)) → Bool → Rule
form_rule names required = record (new_rule (codes "form")) {
  long = Some (codes "form");
  value_names = 1;
  parser = Some (Names names);
  required = required;
}

-- a flag, which may be there once and takes nothing
unfoldable pub flag_rule : Text → Rule
flag_rule name = record (new_rule name) { long = Some name; action = Some SetTrue }

-- `convert --form F`, with the flags --replace, --assigned and --line-buffered
unfoldable pub convert : Bor (List (Bor Text)) → App
convert names =
    with_rule (with_rule (with_rule (with_rule (new_app (codes "convert")) (form_rule names true))
    (flag_rule (codes "replace")))
    (flag_rule (codes "assigned")))
    (flag_rule (codes "line-buffered"))

-- `check`, with the option --form and the flag --assigned
unfoldable pub check : Bor (List (Bor Text)) → App
check names =
    with_rule (with_rule (new_app (codes "check")) (form_rule names false))
    (flag_rule (codes "assigned"))

-- the program's line: one of the subcommands
unfoldable pub line : Bor (List (Bor Text)) → App
line names =
    with_subcommand (with_subcommand (with_subcommand (with_subcommand
    (on_top (λ s. record s { subcommand_required = true }) (new_app (codes "nfstream")))
    (convert names).top)
    (check names).top)
    (new_app (codes "measure")).top)
    (new_app (codes "test")).top

-- a is the program's line, where the names are those of the forms
abbrev pub IsLine : App → Type 0
IsLine a = (names : Bor (List (Bor Text))) × (texts names.now ≡ form_names) × (a ≡ line names)

-- whether the words have the flag, by what was found for the options
abbrev pub is_set : Text → List Row → Bool
is_set flag rows = option_map_or (λ value. bytes_eq value (codes "true")) (one_of flag rows) false

-- the policy that the flags name
abbrev pub policy_of : List Row → Policy
policy_of rows =
    record { replace = is_set (codes "replace") rows; assigned = is_set (codes "assigned") rows }

-- `convert`, line by line or not
abbrev pub conversion : Form → Policy → Bool → Request
conversion f policy lines = if lines then ConvertLines f policy else Convert f policy

-- `check`, of a form where one is named; without a form it refuses no character that is not assigned
abbrev pub checking : Option Text → Bool → Option Request
checking None assigned = if assigned then None else Some Check
checking (Some name) assigned = option_map (λ f. CheckForm f assigned) (form_named name)

-- what a subcommand asks for, by its name, the value of --form, the policy and the flag --line-buffered
abbrev pub request_by : Text → Option Text → Policy → Bool → Option Request
request_by name form policy lines =
    if bytes_eq name (codes "convert") then option_map (λ f. conversion f policy lines) (option_and_then form_named form)
    else (if bytes_eq name (codes "check") then checking form policy.assigned
    else (if bytes_eq name (codes "measure") then Some Measure
    else (if bytes_eq name (codes "test") then Some Test else None)))

-- the same, by its name and what was found for its options
abbrev pub request_of : Option (Text × List Row) → Option Request
request_of None = None
request_of (Some p) = request_by p.0 (first_of (codes "form") p.1) (policy_of p.1) (is_set (codes "line-buffered") p.1)

-- clap finds no fault with the words, and they ask for this
pub record Asks (words : List Text) (r : Request) : Type 0 where
  pub app : App
  pub is_line : IsLine app
  pub faultless : fault_of app words ≡ []
  pub request : request_of (subcommand_of app words) ≡ Some r

-- clap's definition of a simple command refuses the words, by an error of this kind
pub record ClapRefuses (words : List Text) (k : ErrorKind) : Type 0 where
  pub app : App
  pub is_line : IsLine app
  pub refused : takes app words ≡ false
  pub kind : IsAmong k (fault_of app words)

-- `check` with the flag --assigned and without the option --form
abbrev pub lacks_form : Option (Text × List Row) → Bool
lacks_form None = false
lacks_form (Some p) = bytes_eq p.0 (codes "check") && (is_set (codes "assigned") p.1 && not (is_some (first_of (codes "form") p.1)))

-- clap finds no fault with the words, and they are that
pub record LacksForm (words : List Text) (k : ErrorKind) : Type 0 where
  pub app : App
  pub is_line : IsLine app
  pub faultless : fault_of app words ≡ []
  pub lacks : lacks_form (subcommand_of app words) ≡ true
  pub kind : k ≡ MissingRequiredArgument

-- the words are refused, by an error of this kind
abbrev pub Refuses : List Text → ErrorKind → Type 0
Refuses words k = ClapRefuses words k ⊎ LacksForm words k

-- they are refused
abbrev pub IsRefused : List Text → Type 0
IsRefused words = (k : ErrorKind) × Refuses words k

-- memory ran out, or the words are refused
abbrev pub IsRefusal : List Text → ErrorKind → Type 0
IsRefusal words k = (k ≡ OutOfMemory) ⊎ Refuses words k
