pub mod LineStretches
pub mod Reports
pub mod Rest
pub mod SoFar
pub mod WholeTexts
pub mod Written
