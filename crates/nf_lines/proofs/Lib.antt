mod Common
mod WholeLines
mod AloneLemmas
mod StepLemmas
mod DrivesLemmas
