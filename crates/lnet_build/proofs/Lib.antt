mod StandLemmas
mod PortValues
mod EquationValues
mod BuiltValues
mod RaiseLemmas
mod Tidy
