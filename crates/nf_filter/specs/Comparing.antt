-- Bytes that are compared with those that are expected.
use Rattle.std.specs.Prelude.{ℕ, Some, suc, List, [], ◌∷◌, ◌++◌, take, drop, map}
use Rattle.std.specs.Option.{option_to_list}
use Rattle.nf_filter.specs.Devices.{SinkState}
use Rattle.nf_filter.specs.declared.comparing.Comparing.{Comparing}

-- those that were given as they were expected
abbrev pub same : Comparing → List ℕ
same sink = take sink.count (sink.first.now ++ sink.second.now)

-- those that are expected after them
abbrev pub left : Comparing → List ℕ
left sink = drop sink.count (sink.first.now ++ sink.second.now)

-- all that were given: after them at most one that is another
abbrev pub given : Comparing → List ℕ
given sink = same sink ++ option_to_list sink.other

-- the bytes that are expected, marked off from others that follow
abbrev pub preface : List ℕ → List ℕ
preface bytes = map suc bytes ++ 0 ∷ []

-- what is expected counts as taken before what is given, so that who holds the sink knows that it stays
abbrev pub taken : Comparing → List ℕ
taken sink = preface (sink.first.now ++ sink.second.now) ++ given sink

abbrev pub sink_state : Comparing → SinkState
sink_state sink = record { taken = Some (taken sink); is_failed = sink.failed; lender = 0 }
