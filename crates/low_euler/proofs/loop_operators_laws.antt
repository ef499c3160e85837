pub mod MefSteps
pub mod KemrSteps
pub mod KefSteps
pub mod MekrSteps
