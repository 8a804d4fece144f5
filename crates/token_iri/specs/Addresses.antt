-- What the code answers for an IRIREF or a prefixed name, and what the directives leave.
use Rattle.std.specs.Prelude.{◌≡◌, Result, Ok, Err, List, Bool, false, ℕ, ◌-◌, ◌≤◌, length, get_or, take, drop}
use Rattle.text.specs.Text.{Text, cond}
use Rattle.limits.specs.Limits.{iri_limit, work_size}
use Rattle.limits.specs.Refusal.{number}
use Rattle.limits.specs.declared.Refusal.{Refusal}
use Rattle.token.specs.Kind.{kind_code, IRIREF}
use Rattle.token.specs.Tokens.{Token}
use Rattle.escape.specs.Escape.{bad_escape, unescape}
use Rattle.spelling.specs.Form.{bad, joined}
use Rattle.spelling.specs.declared.Form.{Form}
use Rattle.spelling.specs.declared.Form.TheVariants.{Plain}
use Rattle.iri.specs.Resolve.{resolved}
use Rattle.iri.specs.declared.ResolveError.{ResolveError}
use Rattle.std.specs.Prelude.{Result, Ok}
use Rattle.environment.specs.Environment.{Environment, declare, set_base}
use Rattle.environment.specs.Code.{environment_in, Usable, Beside}
use Rattle.dataset.specs.Constructors.{iri_of, nothing, new_base, namespace_of, awaiting}
use Rattle.token_iri.specs.Tests.{token_as, Sound, iri_refusal, namespace_refusal, outcome}
use Rattle.token_iri.specs.declared.Address.{Address}

-- What is answered: the number of a refusal, 0 for none, and the parts of the IRI, which are empty where it is refused.
pub record Answered : Type 0 where
  pub refused : ℕ
  pub start : ℕ
  pub end : ℕ
  pub form : Form
  pub from : ℕ
  pub to : ℕ
  pub buffered : Bool

abbrev pub parts_of : Address → Answered
parts_of a = record { refused = 0; start = a.start; end = a.end; form = a.form; from = a.from; to = a.to; buffered = a.buffered }

abbrev pub refused_address : ℕ → Answered
refused_address n = record { refused = n; start = 0; end = 0; form = Plain; from = 0; to = 0; buffered = false }

abbrev pub answered : Result Address Refusal → Answered
answered (Ok a) = parts_of a
answered (Err r) = refused_address (number r)

-- The front and the back of the IRI.
abbrev pub front_of : Answered → Text → Text
front_of r work = take (r.end - r.start) (drop r.start work)

abbrev pub back_of : Answered → Text → Text → Text
back_of r token buffer = take (r.to - r.from) (drop r.from (cond r.buffered buffer token))

-- The refusal, or the IRI that the token stands for.
pub record StandsFor (e : Environment) (t : Token) (r : Answered) (front back : Text) : Type 0 where
  pub refusal : r.refused ≡ iri_refusal (awaiting nothing e) t
  pub iri : r.refused ≡ 0 → iri_of e t ≡ joined front r.form back
  pub right : r.refused ≡ 0 → bad r.form back ≡ false
  pub short : r.refused ≡ 0 → length (iri_of e t) ≤ iri_limit

-- The parts lie within their slices, also where the token is refused. An IRIREF begins with "<": behind a backslash the
-- escapes of its inside would be others than those of the whole.
pub record Addresses (kind : ℕ) (token work : Text) (st : List ℕ) (buffer : Text) (r : Answered) : Type 0 where
  pub order : r.start ≤ r.end
  pub inside : r.end ≤ work_size
  pub back_order : r.from ≤ r.to
  pub back_inside : r.to ≤ length (cond r.buffered buffer token)
  pub stands : Usable work st → Sound (environment_in work st) → (kind ≡ kind_code IRIREF → get_or token 0 0 ≡ 60) → (at : ℕ)
      → StandsFor (environment_in work st) (token_as kind at token) r (front_of r work) (back_of r token buffer)

-- The same address with its back in a form that reads the same.
abbrev pub with_form : Answered → Form → Answered
with_form a f = record { refused = a.refused; start = a.start; end = a.end; form = f; from = a.from; to = a.to; buffered = a.buffered }

-- The reference s, without bad escapes, is resolved into the front of the buffer.
pub record Resolves (base s buffer : Text) (a : Result ℕ ResolveError) : Type 0 where
  pub is : a ≡ outcome base (unescape s)
  pub front : (k : ℕ) → a ≡ Ok k → take k buffer ≡ resolved base (unescape s)

pub record WritesReference (s work : Text) (st : List ℕ) (buffer : Text) (a : Result ℕ ResolveError) : Type 0 where
  pub inside : (k : ℕ) → a ≡ Ok k → k ≤ length buffer
  pub resolves : Usable work st → Sound (environment_in work st) → bad_escape s ≡ false → Resolves (environment_in work st).base s buffer a

-- The local part, where the colon stands at a place, begins at r.
pub record LocalFrom (s : Text) (colon r : ℕ) : Type 0 where
  pub part : drop r s ≡ drop 1 (drop colon s)
  pub inside : r ≤ length s

-- An IRIREF without bad escapes.
pub record GoodReference (token : Text) : Type 0 where
  pub begun : get_or token 0 0 ≡ 60
  pub good : bad_escape token ≡ false

-- What a directive leaves where it is not refused.
pub record Leaves (e : Environment) (work : Text) (st : List ℕ) : Type 0 where
  pub after : environment_in work st ≡ e
  pub usable : Usable work st
  pub sound : Sound e

pub record DeclaresNamespace (token p work work' : Text) (st st' : List ℕ) (r : ℕ) : Type 0 where
  pub refusal : (at : ℕ) → r ≡ namespace_refusal (awaiting (namespace_of p) (environment_in work st)) (token_as 1 at token)
  pub leaves : r ≡ 0 → (at : ℕ) → Leaves (declare p (iri_of (environment_in work st) (token_as 1 at token)) (environment_in work st)) work' st'
  pub beside : Beside work work' st st'
  pub words : length st' ≡ length st

pub record DeclaresBase (token work work' : Text) (st st' : List ℕ) (r : ℕ) : Type 0 where
  pub refusal : (at : ℕ) → r ≡ iri_refusal (awaiting new_base (environment_in work st)) (token_as 1 at token)
  pub leaves : r ≡ 0 → (at : ℕ) → Leaves (set_base (iri_of (environment_in work st) (token_as 1 at token)) (environment_in work st)) work' st'
  pub beside : Beside work work' st st'
  pub words : length st' ≡ length st
